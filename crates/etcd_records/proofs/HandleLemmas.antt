-- What is so of the fields after an exchange, after one more record, and once the last one is forgotten.
use Rattle.std.proofs.Common.{◌≡◌, ℕ, ◌+◌, ◌-◌, ◌<◌, ◌≤◌, List, [], ◌∷◌, ◌++◌, length, Option, None, Some, sym, ap, subst, ◌∙◌, arith, length-append, zero-add}
use Rattle.std.proofs.lemmas.List.Sums.{sum_by-append}
use Rattle.kept_records.specs.Keeping.{bytes_in}
use Rattle.kept_records.specs.declared.record.Record.{Record}
use Rattle.etcd_records.specs.declared.exchange.Exchange.{Exchange}
use Rattle.etcd_records.specs.declared.handle.Last.{Last}
use Rattle.etcd_records.specs.Handles.{IsHandle, IsLeft, IsShown, known_in}
use Rattle.etcd_records.proofs.ShownLemmas.{AreShown-first, AreShown-more, AreShown-push}

-- more exchanges change nothing
pub asked_more : (old new done : List Exchange) (prefix : List ℕ) (count : ℕ) (left : Option ℕ) (limit : ℕ)
    (marks : List Record) (last : Option Last)
    → IsHandle old prefix count left limit marks last → new ≡ old ++ done → IsHandle new prefix count left limit marks last
asked_more old new done prefix count left limit marks last was more = record {
  counted = was.counted;
  bounded = was.bounded;
  left_is = was.left_is;
  shown = AreShown-more old new done prefix (known_in marks last) more was.shown;
  before = was.before;
}

-- the bytes of one more record
bytes_more : (kept : List Record) (added : Record) → bytes_in (kept ++ added ∷ []) ≡ bytes_in kept + length added.bytes
bytes_more kept added =
    sum_by-append (λ (it : Record). length it.bytes) kept (added ∷ []) ∙ ap (λ n. bytes_in kept + n) (zero-add (length added.bytes))

-- one more record that an exchange has shown
pub learned : (exchanges : List Exchange) (prefix : List ℕ) (count : ℕ) (left rest : Option ℕ) (limit : ℕ)
    (marks passed : List Record) (last : Option Last) (next : Last)
    → IsHandle exchanges prefix count left limit marks last → passed ≡ known_in marks last → next.left ≡ left
    → length (known_in marks last) < 65536 → IsShown exchanges prefix (length (known_in marks last) + 1) next.mark
    → IsLeft limit (bytes_in (known_in marks last) + length next.mark.bytes) rest
    → IsHandle exchanges prefix (count + 1) rest limit passed (Some next)
learned exchanges prefix count left rest limit marks passed last next was passes before room shown is_left =
    let kept = known_in marks last in
    subst (λ (all : List Record). IsHandle exchanges prefix (count + 1) rest limit all (Some next)) (sym passes) (record {
      counted = ap (λ n. n + 1) was.counted ∙ sym (length-append kept (next.mark ∷ []));
      bounded = let counted : count ≡ length kept = was.counted in omega arith;
      left_is = subst (λ (bytes : ℕ). IsLeft limit bytes rest) (sym (bytes_more kept next.mark)) is_left;
      shown = AreShown-push exchanges prefix kept next.mark was.shown shown;
      before = subst (λ (l : Option ℕ). IsLeft limit (bytes_in kept) l) (sym before) was.left_is;
    })

-- the last record is known no more
pub forgotten : (exchanges : List Exchange) (prefix : List ℕ) (count : ℕ) (left : Option ℕ) (limit : ℕ)
    (marks : List Record) (last : Last)
    → IsHandle exchanges prefix count left limit marks (Some last)
    → IsHandle exchanges prefix (count - 1) last.left limit marks None
forgotten exchanges prefix count left limit marks last was = record {
  counted = let counted : count ≡ length (marks ++ last.mark ∷ []) = was.counted in
      omega (arith, length-append marks (last.mark ∷ []));
  bounded = let bounded : count ≤ 65536 = was.bounded in omega arith;
  left_is = was.before;
  shown = AreShown-first exchanges prefix marks last.mark was.shown;
  before = tt;
}
