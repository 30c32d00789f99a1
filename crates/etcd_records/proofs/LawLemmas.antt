-- Two servers know one history.
use Rattle.std.proofs.Common.{◌≡◌, ◌⊎◌, ℕ, suc, ◌+◌, ◌<◌, List, [], ◌∷◌, ◌++◌, Option, Some, Result, Ok, refl, sym, ap, subst, ◌∙◌, inl, inr, arith}
use Rattle.std.specs.Prelude.{slice_get}
use Rattle.base64.specs.Engines.{standard}
use Rattle.base64.specs.GeneralPurpose.{decode_of}
use Rattle.base64.specs.declared.decode.DecodeError.{DecodeError}
use Rattle.kept_records.specs.Keeping.{record_of}
use Rattle.kept_records.specs.declared.record.Kind.{Kind}
use Rattle.kept_records.specs.declared.record.Kind.TheVariants.{Profile, Script, Raise}
use Rattle.kept_records.specs.declared.record.Record.{Record}
use Rattle.etcd_records.specs.declared.exchange.Exchange.{Exchange}
use Rattle.etcd_records.specs.Handles.{IsShown}
use Rattle.etcd_records.specs.Keys.{encoded_key, value_of, word_of}
use Rattle.etcd_records.specs.Laws.{AgreeWith, AreOneHistory, KeepsCreated, ServersKnowOneHistory}

-- lists that begin with different letters
others : (m n : ℕ) (xs ys : List ℕ) → (m < n) ⊎ (n < m) → m ∷ xs ≡ n ∷ ys → ⊥
others m n xs ys (inl less) is = let same : m ≡ n = cc in omega arith
others m n xs ys (inr more) is = let same : m ≡ n = cc in omega arith

-- lists that go on after the same letters
same_rest : (begin xs ys : List ℕ) → begin ++ xs ≡ begin ++ ys → xs ≡ ys
same_rest [] xs ys is = is
same_rest (one ∷ more) xs ys is = let rest : more ++ xs ≡ more ++ ys = cc in same_rest more xs ys rest

of_one_value : (k l : Kind) (a b : List ℕ) → word_of k ++ a ≡ word_of l ++ b → record_of k a ≡ record_of l b
of_one_value Profile Profile a b is = ap (record_of Profile) (same_rest (word_of Profile) a b is)
of_one_value Profile Script a b is = absurd (others 112 115 _ _ (inl (omega arith)) is)
of_one_value Profile Raise a b is = absurd (others 112 114 _ _ (inl (omega arith)) is)
of_one_value Script Profile a b is = absurd (others 115 112 _ _ (inr (omega arith)) is)
of_one_value Script Script a b is = ap (record_of Script) (same_rest (word_of Script) a b is)
of_one_value Script Raise a b is = absurd (others 115 114 _ _ (inr (omega arith)) is)
of_one_value Raise Profile a b is = absurd (others 114 112 _ _ (inr (omega arith)) is)
of_one_value Raise Script a b is = absurd (others 114 115 _ _ (inl (omega arith)) is)
of_one_value Raise Raise a b is = ap (record_of Raise) (same_rest (word_of Raise) a b is)

-- a value is that of one record
same_record : (a b : Record) → value_of a ≡ value_of b → a ≡ b
same_record a b is = of_one_value a.kind b.kind a.bytes b.bytes is

same_result : (read : Result (List ℕ) DecodeError) (xs ys : List ℕ) → read ≡ Ok xs → read ≡ Ok ys → xs ≡ ys
same_result read xs ys is also = cc

same_decoded : (v w : List ℕ) (a b : Record) → Some v ≡ Some w → decode_of standard v ≡ Ok (value_of a)
    → decode_of standard w ≡ Ok (value_of b) → a ≡ b
same_decoded v w a b same of_a of_b =
    let is : v ≡ w = cc in
    same_record a b (same_result (decode_of standard w) (value_of a) (value_of b) (subst (λ (it : List ℕ). decode_of standard it ≡ Ok (value_of a)) is of_a) of_b)

-- what two servers were shown of a number is one record
same_shown : (store : ℕ → List ℕ → Option (List ℕ)) → KeepsCreated store
    → (prefix : List ℕ) (ours theirs : List Exchange) → AgreeWith store ours → AgreeWith store theirs
    → (number : ℕ) (a b : Record) → IsShown ours prefix number a → IsShown theirs prefix number b → a ≡ b
same_shown store keeps prefix ours theirs agree also number a b of_a of_b =
    let key = encoded_key prefix number in
    let early = agree of_a.exchange key of_a.value of_a.done of_a.shows in
    let late = also of_b.exchange key of_b.value of_b.done of_b.shows in
    same_decoded of_a.value of_b.value a b
    (sym (keeps early.0 (early.0 + late.0) key of_a.value (omega arith) early.1)
    ∙ keeps late.0 (early.0 + late.0) key of_b.value (omega arith) late.1)
    of_a.decodes of_b.decodes

-- lists that agree wherever both have a record begin alike
begin_alike : (known others : List Record)
    → ((at : ℕ) (a b : Record) → slice_get known at ≡ Some a → slice_get others at ≡ Some b → a ≡ b)
    → AreOneHistory known others
begin_alike [] others same = inr (others, refl)
begin_alike (one ∷ more) [] same = inl (one ∷ more, refl)
begin_alike (one ∷ more) (other ∷ others) same =
    let first : one ≡ other = same 0 one other refl refl in
    elim (begin_alike more others (λ at. same (suc at))) as (λ _. AreOneHistory (one ∷ more) (other ∷ others)) [
      | inl longer ↦ inl (longer.0, both one other more (others ++ longer.0) first longer.1)
      | inr longer ↦ inr (longer.0, both other one others (more ++ longer.0) (sym first) longer.1)
    ]
  where
    both : (a b : Record) (xs ys : List Record) → a ≡ b → xs ≡ ys → a ∷ xs ≡ b ∷ ys
    both a b xs ys one two = cc

pub one_history : ServersKnowOneHistory
one_history store keeps prefix ours theirs agree also known others of_ours of_theirs =
    begin_alike known others (λ at a b mine yours. same_shown store keeps prefix ours theirs agree also (at + 1) a b (of_ours at a mine) (of_theirs at b yours))
