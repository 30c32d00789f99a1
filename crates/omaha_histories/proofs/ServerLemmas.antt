-- What more records lead to.
use Rattle.std.proofs.Common.{◌∙◌, List, [], ◌∷◌, ◌++◌, ℕ, ap, refl, subst, sym}
use Rattle.std.proofs.lemmas.List.{append-nil, append_assoc}
use Rattle.catalogue.specs.Histories.{History}
use Rattle.kept_records.specs.declared.record.Kind.{Kind}
use Rattle.kept_records.specs.declared.record.Kind.TheVariants as kind
use Rattle.kept_records.specs.declared.record.Record.{Record}
use Rattle.publisher.specs.Beginnings.{StartsWith}
use Rattle.omaha_histories.specs.Laws.{ServersAgree}
use Rattle.omaha_histories.specs.Restarting.{FollowAll, FollowsAs, Found}
use Rattle.omaha_histories.proofs.OneLemmas.{records_lead_to_one}

same-history : (history : History) → StartsWith history history
same-history history = ([], sym (append-nil history))

then-history : (last next first : History) → StartsWith last next → StartsWith next first → StartsWith last first
then-history last next first (more, is) (rest, was) =
    (rest ++ more, is ∙ ap (λ (h : History). h ++ more) was ∙ append_assoc first rest more)

-- each record leaves the batches before it
grows-by : (k : Kind) (bytes : List ℕ) (before after : Found) → FollowsAs k bytes before after →
    StartsWith after.history before.history
grows-by kind.Profile bytes before after never = absurd never
grows-by kind.Script bytes before after (base, batch, read, continues, mirrors) = (batch ∷ [], continues.2)
grows-by kind.Raise bytes before after (asked, is, raised, same) =
    subst (λ (h : History). StartsWith h before.history) (sym same) (same-history before.history)

grows : (records : List Record) (before after : Found) → FollowAll before records after →
    StartsWith after.history before.history
grows [] before after same =
    subst (λ (f : Found). StartsWith f.history before.history) (sym same) (same-history before.history)
grows (entry ∷ records) before after (between, follows, rest) =
    then-history after.history between.history before.history (grows records between after rest)
    (grows-by entry.kind entry.bytes before between follows)

-- what the first ones of records lead to, and then the others
record Splits (start : Found) (known more : List Record) (end : Found) : Type 0 where
  between : Found
  first : FollowAll start known between
  rest : FollowAll between more end

splits : (start : Found) (known more : List Record) (end : Found) → FollowAll start (known ++ more) end →
    Splits start known more end
splits start [] more end all = record { between = start; first = refl; rest = all }
splits start (entry ∷ known) more end (next, follows, all) =
    let split = splits next known more end all in
    record { between = split.between; first = (next, follows, split.first); rest = split.rest }

pub servers_agree : ServersAgree
servers_agree [] more one other never all = absurd never
servers_agree (first ∷ known) more one other leads (start, begins, all) =
    let split = splits start known more other all in
    let same = records_lead_to_one (first ∷ known) one split.between leads (start, begins, split.first) in
    subst (λ (f : Found). StartsWith other.history f.history) same (grows more split.between other split.rest)
