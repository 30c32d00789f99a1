-- The operator's desk: scripts, raises of budgets, and dumps; this project's profile.
use Rattle.std.specs.Prelude.{◌≡◌, ◌≢◌, ◌⊎◌, ℕ, true, false, List, codes, None, Result, Ok, Err}
use Rattle.catalogue.specs.Histories.{History}
use Rattle.editions.specs.Editions.{content_of}
use Rattle.http_desks.specs.Calls.{Call, Asks, Looks, Shows}
use Rattle.http_desks.specs.declared.desk.DeskStatus.{DeskStatus}
use Rattle.http_desks.specs.declared.desk.DeskStatus.TheVariants as status
use Rattle.http_desks.specs.declared.desk.Off.{Off}
use Rattle.http_desks.specs.declared.desk.Off.TheVariants as off
use Rattle.profile_toml.specs.WrittenProfiles.{IsProfileFile, IsReadAs}
use Rattle.catalogue.specs.declared.mirror.Mirror.{Mirror}
use Rattle.service_desks.specs.Following.{Follows, GivesWay, follow_word}
use Rattle.service_desks.specs.Raises.{RaisesBy, is_raise}
use Rattle.service_desks.specs.Scripts.{Performs}
use Rattle.service_desks.specs.States.{State, publication_of}

-- rule: Dump
-- a reply is the profile of a history's content and of the mirrors with their present budgets, and is read as them
pub record IsDump (mirrors : List Mirror) (history : History) (reply : DeskStatus × List ℕ) : Type 0 where
  pub succeeded : reply.0 ≡ status.Success
  pub written : IsProfileFile (content_of history) mirrors reply.1
  pub reads_back : IsReadAs (content_of history) mirrors reply.1

-- what a dump comes to, unless memory runs out
abbrev pub Dumps : List Mirror → History → Result (DeskStatus × List ℕ) Off → Type 0
Dumps mirrors history (Ok reply) = IsDump mirrors history reply
Dumps mirrors history (Err off.Memory) = Unit {0}
Dumps mirrors history (Err off.Closed) = ⊥

-- the body that asks for a dump
abbrev pub dump_word : List ℕ
dump_word = codes "dump"

-- what a body comes to that asks for a raise: a raise, and nothing is published; or another server's record came first
abbrev pub IsRaised : State → List ℕ → Result (DeskStatus × List ℕ) Off → State → Type 0
IsRaised before body answer after =
    (RaisesBy (before.mirrors, before.store) (after.mirrors, after.store) body answer × (after.history ≡ before.history))
    ⊎ GivesWay before answer after

-- what any other body comes to, a script: it is performed, and no budget is raised; or another server's record came first
abbrev pub IsPerformed : State → List ℕ → Result (DeskStatus × List ℕ) Off → State → Type 0
IsPerformed before body answer after =
    (Performs (publication_of before) body answer (publication_of after) × (after.mirrors ≡ before.mirrors))
    ⊎ GivesWay before answer after

-- what a body comes to: a dump, if it asks for one, and then all is as before; what another server published or raised is
-- adopted, if it asks for that; a raise; else a script
abbrev pub IsOperated : State → List ℕ → Result (DeskStatus × List ℕ) Off → State → Type 0
IsOperated before body answer after =
    ((body ≡ dump_word) × Dumps before.mirrors before.history answer × (after ≡ before))
    ⊎ ((body ≡ follow_word) × Follows before answer after)
    ⊎ ((is_raise body ≡ true) × IsRaised before body answer after)
    ⊎ ((body ≢ dump_word) × (body ≢ follow_word) × (is_raise body ≡ false) × IsPerformed before body answer after)

-- rule: Operator's desk
-- a call of the desk, with the mirrors and their budgets, the published history, and what is kept, before and after it; the
-- desk knows no package and no page
abbrev pub IsCall : State → Call → State → Type 0
IsCall before (Asks body moment answer) after = IsOperated before body answer after
IsCall before (Looks name found) after = (found ≡ None) × (after ≡ before)
IsCall before (Shows at page) after = (page ≡ Ok None) × (after ≡ before)
