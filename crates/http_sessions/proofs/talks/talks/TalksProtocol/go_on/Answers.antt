use Rattle.std.proofs.Common.{◌≡◌, ◌++◌, ◌∙◌, ℕ, List, [], refl, sym, subst, ap, drop, inl, inr}
use Rattle.http_desks.specs.Uses.{IsUse}
use Rattle.http_ports.specs.Traffic.{IsTime, later}
use Rattle.http_sessions.specs.Leaves.{AtOnce}
use Rattle.http_sessions.specs.Talks.{Said, waiting_at, waiting_of}
use Rattle.http_sessions.specs.declared.talks.talk.Stage.{Stage}
use Rattle.http_sessions.specs.declared.talks.talk.Talk.{Talk}
use Rattle.http_sessions.proofs.TalkLemmas.{Said-lost, Said-part}
use Rattle.http_sessions.proofs.TimestampLemmas.{Said-busy, Said-idle, fits_at}
use Rattle.http_sessions.proofs.LeavesLemmas.{left_on}
use Rattle.http_sessions.proofs.RejectLemmas.{rejection_leaves}
use Rattle.http_sessions.proofs.WiderLemmas.{part_at_once, steps_at_once}
use Rattle.http_sessions.proofs.talks.talks.TalksProtocol.go_on.Goals as goal

pub returns-in-Part-clause-calls : goal.returns-in-Part-clause-calls
returns-in-Part-clause-calls g c = (
  [],
  refl,
  λ received sent timestamps made said.
      Said-idle (IsUse (g.D.Desk.path c.args.desk.now) IsTime (g.Z.Packages.sizes c.args.self.now.site.now) (g.Z.Packages.reads c.args.self.now.site.now))
      (g.D.Desk.content_type c.args.desk.now) timestamps c.args.seconds c.args.talk.now received sent made (ap (λ (at : Stage). waiting_at at c.args.talk.now.kept.items) c.in-Part.is) said,
)

pub returns-in-Over-clause-calls : goal.returns-in-Over-clause-calls
returns-in-Over-clause-calls g c = (
  [],
  refl,
  λ received sent timestamps made said.
      Said-idle (IsUse (g.D.Desk.path c.args.desk.now) IsTime (g.Z.Packages.sizes c.args.self.now.site.now) (g.Z.Packages.reads c.args.self.now.site.now))
      (g.D.Desk.content_type c.args.desk.now) timestamps c.args.seconds c.args.talk.now received sent made (ap (λ (at : Stage). waiting_at at c.args.talk.now.kept.items) c.in-Over.is) said,
)

pub returns-in-Failed-clause-calls : goal.returns-in-Failed-clause-calls
returns-in-Failed-clause-calls g c = (
  [],
  refl,
  λ received sent timestamps made said.
      Said-idle (IsUse (g.D.Desk.path c.args.desk.now) IsTime (g.Z.Packages.sizes c.args.self.now.site.now) (g.Z.Packages.reads c.args.self.now.site.now))
      (g.D.Desk.content_type c.args.desk.now) timestamps c.args.seconds c.args.talk.now received sent made (ap (λ (at : Stage). waiting_at at c.args.talk.now.kept.items) c.in-Failed.is) said,
)

pub returns-in-Lost-clause-calls : goal.returns-in-Lost-clause-calls
returns-in-Lost-clause-calls g c = (
  [],
  refl,
  λ received sent timestamps made said.
      Said-idle (IsUse (g.D.Desk.path c.args.desk.now) IsTime (g.Z.Packages.sizes c.args.self.now.site.now) (g.Z.Packages.reads c.args.self.now.site.now))
      (g.D.Desk.content_type c.args.desk.now) timestamps c.args.seconds c.args.talk.now received sent made (ap (λ (at : Stage). waiting_at at c.args.talk.now.kept.items) c.in-Lost.is) said,
)

pub returns-in-Part-foresee-clause-calls : goal.returns-in-Part-foresee-clause-calls
returns-in-Part-foresee-clause-calls g c =
    let IsFit = (IsUse (g.D.Desk.path c.args.desk.now) IsTime (g.Z.Packages.sizes c.args.self.now.site.now) (g.Z.Packages.reads c.args.self.now.site.now)) in
    let kind = g.D.Desk.content_type c.args.desk.now in
    let (is_part, stays) = rw c.deref.ensures.value at c.in-Part-foresee.ensures in (
      [],
      refl,
      λ received sent timestamps made said.
          Said-part IsFit kind (later timestamps c.args.seconds (waiting_of c.args.talk.now) received sent) c.args.talk.now _ received sent _ c.in-Busy.is refl refl refl
          (ap (λ (bytes : List ℕ). drop 0 bytes) c.new.ensures.items ∙ sym c.requires.sent) is_part stays
          (Said-busy IsFit kind timestamps c.args.seconds c.args.talk.now received sent made c.in-Busy.is c.requires.sent said),
    )

pub returns-in-Rejected-clause-calls : goal.returns-in-Rejected-clause-calls
returns-in-Rejected-clause-calls g c =
    let IsFit = (IsUse (g.D.Desk.path c.args.desk.now) IsTime (g.Z.Packages.sizes c.args.self.now.site.now) (g.Z.Packages.reads c.args.self.now.site.now)) in
    let IsNow = (IsUse (g.D.Desk.path c.args.desk.now) (λ seconds. seconds ≡ c.args.seconds) (g.Z.Packages.sizes c.args.self.now.site.now) (g.Z.Packages.reads c.args.self.now.site.now)) in
    let kind = g.D.Desk.content_type c.args.desk.now in
    let talk = c.args.talk.now in
    let (calls, leads, goes_on) =
    left_on IsNow IsFit kind c.args.seconds
    (fits_at (g.D.Desk.path c.args.desk.now) c.args.seconds (g.Z.Packages.sizes c.args.self.now.site.now) (g.Z.Packages.reads c.args.self.now.site.now) c.requires.time)
    g.D.Desk.steps talk c.apply-in-Rejected.new.talk c.args.desk.now c.args.desk.now c.reject-after.result
    c.in-Busy.is c.requires.sent
    (rejection_leaves IsNow kind talk.kept.items g.D.Desk.steps talk.begun talk.few c.args.desk.now c.in-Rejected.status c.reject-after.result
    (rw c.deref.ensures.value at c.in-Rejected.ensures) c.reject-after.ensures) c.apply-in-Rejected.ensures in (
      calls,
      leads,
      λ received sent timestamps made said.
          elim c.next_of-in-Rejected.ensures.left [
            | inl same ↦ subst (λ (talk : Talk). Said IsFit kind (later timestamps c.args.seconds (waiting_of c.args.talk.now) received sent) talk received sent (made ++ calls)) (sym same)
                (goes_on received sent timestamps made said)
            | inr up ↦ Said-lost IsFit kind (later timestamps c.args.seconds (waiting_of c.args.talk.now) received sent) c.apply-in-Rejected.new.talk c.next_of-in-Rejected.new.talk
                received sent (made ++ calls) up.busy up.none up.lost up.silent (goes_on received sent timestamps made said)
          ],
    )

pub returns-in-Whole-clause-calls : goal.returns-in-Whole-clause-calls
returns-in-Whole-clause-calls g c =
    let IsFit = (IsUse (g.D.Desk.path c.args.desk.now) IsTime (g.Z.Packages.sizes c.args.self.now.site.now) (g.Z.Packages.reads c.args.self.now.site.now)) in
    let IsNow = (IsUse (g.D.Desk.path c.args.desk.now) (λ seconds. seconds ≡ c.args.seconds) (g.Z.Packages.sizes c.args.self.now.site.now) (g.Z.Packages.reads c.args.self.now.site.now)) in
    let kind = g.D.Desk.content_type c.args.desk.now in
    let fits = fits_at (g.D.Desk.path c.args.desk.now) c.args.seconds (g.Z.Packages.sizes c.args.self.now.site.now) (g.Z.Packages.reads c.args.self.now.site.now) c.requires.time in
    let (calls, leads, goes_on) =
    left_on (AtOnce IsNow) IsFit kind c.args.seconds (λ method target used is. fits method target used is.0)
    g.D.Desk.steps c.args.talk.now c.apply.new.talk c.args.desk.now c.reply-after.new.desk c.reply-after.result
    c.in-Busy.is c.requires.sent (rw c.deref-in-Whole.ensures.value at c.reply-after.ensures.leaves) c.apply.ensures in (
      calls,
      leads,
      λ received sent timestamps made said.
          elim c.next_of-in-Whole.ensures.left [
            | inl same ↦ subst (λ (talk : Talk). Said IsFit kind (later timestamps c.args.seconds (waiting_of c.args.talk.now) received sent) talk received sent (made ++ calls)) (sym same)
                (goes_on received sent timestamps made said)
            | inr up ↦ Said-lost IsFit kind (later timestamps c.args.seconds (waiting_of c.args.talk.now) received sent) c.apply.new.talk c.next_of-in-Whole.new.talk
                received sent (made ++ calls) up.busy up.none up.lost up.silent (goes_on received sent timestamps made said)
          ],
    )

pub returns-in-Sends-clause-calls : goal.returns-in-Sends-clause-calls
returns-in-Sends-clause-calls g c = (
  [],
  refl,
  λ received sent timestamps made said.
      let IsFit = (IsUse (g.D.Desk.path c.args.desk.now) IsTime (g.Z.Packages.sizes c.args.self.now.site.now) (g.Z.Packages.reads c.args.self.now.site.now)) in
      let kind = g.D.Desk.content_type c.args.desk.now in
      let sends = c.send_on.ensures.sends (g.D.Desk.path c.args.desk.now) kind (later timestamps c.args.seconds (waiting_of c.args.talk.now) received sent)
      received sent (made ++ []) (Said-idle IsFit kind timestamps c.args.seconds c.args.talk.now received sent made
      (ap (λ (at : Stage). waiting_at at c.args.talk.now.kept.items) c.in-Sends.is) said) in
      elim c.next_of.ensures.left [
        | inl same ↦ subst (λ (talk : Talk). Said IsFit kind (later timestamps c.args.seconds (waiting_of c.args.talk.now) received sent) talk received sent (made ++ [])) (sym same) sends
        | inr up ↦ Said-lost IsFit kind (later timestamps c.args.seconds (waiting_of c.args.talk.now) received sent) c.send_on.new.talk c.next_of.new.talk received sent (made ++ []) up.busy up.none up.lost up.silent sends
      ],
)

pub returns-in-Part-foresee-clause-at_once : goal.returns-in-Part-foresee-clause-at_once
returns-in-Part-foresee-clause-at_once g c = λ busy kept_on.
    part_at_once (IsUse (g.D.Desk.path c.args.desk.now) (λ seconds. seconds ≡ c.args.seconds) (g.Z.Packages.sizes c.args.self.now.site.now) (g.Z.Packages.reads c.args.self.now.site.now)) g.D.Desk.steps
    (g.D.Desk.content_type c.args.desk.now) c.args.talk.now.begun c.args.talk.now.few c.args.talk.now.kept.items _ c.args.desk.now
    (rw c.deref.ensures.value at c.in-Part-foresee.ensures).0 (ap (λ (bytes : List ℕ). drop 0 bytes) c.new.ensures.items)

pub returns-in-Rejected-clause-at_once : goal.returns-in-Rejected-clause-at_once
returns-in-Rejected-clause-at_once g c =
    let IsNow = (IsUse (g.D.Desk.path c.args.desk.now) (λ seconds. seconds ≡ c.args.seconds) (g.Z.Packages.sizes c.args.self.now.site.now) (g.Z.Packages.reads c.args.self.now.site.now)) in
    let kind = g.D.Desk.content_type c.args.desk.now in
    let talk = c.args.talk.now in
    steps_at_once IsNow g.D.Desk.steps kind talk c.apply-in-Rejected.new.talk c.next_of-in-Rejected.new.talk c.args.desk.now c.args.desk.now
    c.reject-after.result
    (rejection_leaves (AtOnce IsNow) kind talk.kept.items g.D.Desk.steps talk.begun talk.few c.args.desk.now c.in-Rejected.status
    c.reject-after.result (rw c.deref.ensures.value at c.in-Rejected.ensures) c.reject-after.ensures)
    c.apply-in-Rejected.ensures c.next_of-in-Rejected.ensures.left

pub returns-in-Whole-clause-at_once : goal.returns-in-Whole-clause-at_once
returns-in-Whole-clause-at_once g c =
    steps_at_once (IsUse (g.D.Desk.path c.args.desk.now) (λ seconds. seconds ≡ c.args.seconds) (g.Z.Packages.sizes c.args.self.now.site.now) (g.Z.Packages.reads c.args.self.now.site.now)) g.D.Desk.steps
    (g.D.Desk.content_type c.args.desk.now) c.args.talk.now c.apply.new.talk c.next_of-in-Whole.new.talk c.args.desk.now
    c.reply-after.new.desk c.reply-after.result (rw c.deref-in-Whole.ensures.value at c.reply-after.ensures.leaves)
    c.apply.ensures c.next_of-in-Whole.ensures.left
