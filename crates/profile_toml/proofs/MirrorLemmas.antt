-- Mirrors that are all valid, and the profiles that have them.
use Rattle.std.proofs.Common.{◌≡◌, ℕ, ◌+◌, ◌≤◌, ◌||◌, not, nat_lt, List, [], ◌∷◌, ◌++◌, length, Bool, true, false, cond, Option, Some, None, Result, Ok, Err, refl, ap, arith, append_assoc, append-nil, ltb-false}
use Rattle.std.specs.List.{count_by, list_all, list_any}
use Rattle.std.specs.Option.{ok_or, option_map_or}
use Rattle.std.proofs.lemmas.List.Sums.{sum_by-append}
use Rattle.std.proofs.lemmas.Slice.Eq.{bytes_eq-Decides}
use Rattle.catalogue.specs.Mirrors.{is_mirror}
use Rattle.catalogue.specs.declared.edit.Edit.{Edit}
use Rattle.catalogue.specs.declared.mirror.Mirror.{Mirror}
use Rattle.profile_toml.specs.Fields.{◌>>=◌}
use Rattle.profile_toml.specs.Tables.{document}
use Rattle.profile_toml.specs.Apps.{edits_of}
use Rattle.profile_toml.specs.Documents.{document_of, entries, schema_of}
use Rattle.profile_toml.specs.Laws.{AreMirrors}
use Rattle.profile_toml.specs.Mirrors.{invalid_mirror, first_invalid_after, valid_mirrors, is_invalid_after, is_named, max_mirrors}
use Rattle.profile_toml.specs.Profiles.{profile_of}
use Rattle.profile_toml.specs.Reading.{profile_of_bytes}
use Rattle.profile_toml.specs.declared.fault.ProfileFault.{ProfileFault}
use Rattle.profile_toml.specs.declared.fault.ProfileFault.TheVariants.{NotToml, BadMirror}

count_by-cons : {A : Type 0} (q : A → Bool) (x : A) (xs : List A)
    → count_by q (x ∷ xs) ≡ cond (q x) 1 0 + count_by q xs
count_by-cons q x xs = let joined = sum_by-append (λ y. cond (q y) 1 0) (x ∷ []) xs in omega arith

count_by-append : {A : Type 0} (q : A → Bool) (xs ys : List A)
    → count_by q (xs ++ ys) ≡ count_by q xs + count_by q ys
count_by-append q xs ys = sum_by-append (λ y. cond (q y) 1 0) xs ys

-- a test that returns no index was false
no_index : (test : Bool) (index : ℕ) (rest : Option ℕ)
    → cond test (Some index) rest ≡ None → (test ≡ false) × (rest ≡ None)
no_index true index rest none = absurd (cc)
no_index false index rest none = (refl, none)

-- a mirror that is not invalid is valid, and another name than those before it
neither : (formed named : Bool) → (not formed || named) ≡ false → (formed ≡ true) × (named ≡ false)
neither true named fits = (refl, fits)
neither false named fits = absurd (cc)

not_invalid : (before : List Mirror) (mirror : Mirror) (mirrors : List Mirror)
    → first_invalid_after before (mirror ∷ mirrors) ≡ None
    → (is_invalid_after before mirror ≡ false) × (first_invalid_after (before ++ mirror ∷ []) mirrors ≡ None)
not_invalid before mirror mirrors none = no_index (is_invalid_after before mirror) (length before) _ none

all_formed : (before mirrors : List Mirror)
    → first_invalid_after before mirrors ≡ None → list_all is_mirror mirrors ≡ true
all_formed before [] none = refl
all_formed before (mirror ∷ mirrors) none =
    let good = not_invalid before mirror mirrors none in
    let here = neither (is_mirror mirror) (list_any (is_named mirror.name) before) good.0 in
    rw here.0 (all_formed (before ++ mirror ∷ []) mirrors good.1)

-- if no mirror has the name, none is counted
uncounted : (name : List ℕ) (mirrors : List Mirror)
    → list_any (is_named name) mirrors ≡ false → count_by (is_named name) mirrors ≡ 0
uncounted name [] none = refl
uncounted name (mirror ∷ mirrors) none = by_test (is_named name mirror) refl none (uncounted name mirrors)
  where
    by_test : (test : Bool) → is_named name mirror ≡ test → (test || list_any (is_named name) mirrors) ≡ false
        → (list_any (is_named name) mirrors ≡ false → count_by (is_named name) mirrors ≡ 0)
        → count_by (is_named name) (mirror ∷ mirrors) ≡ 0
    by_test true here others rest = absurd (cc)
    by_test false here others rest =
        let counted = count_by-cons (is_named name) mirror mirrors in
        let nothing = ap (λ (t : Bool). cond {A = ℕ} t 1 0) here in
        let none_left = rest others in
        omega arith

-- one more mirror of another name than those before it leaves each name at most once
once_more : (name : List ℕ) (before : List Mirror) (mirror : Mirror)
    → list_any (is_named mirror.name) before ≡ false → count_by (is_named name) before ≤ 1
    → count_by (is_named name) (before ++ mirror ∷ []) ≤ 1
once_more name before mirror new once = by_test (is_named name mirror) refl
  where
    by_test : (test : Bool) → is_named name mirror ≡ test → count_by (is_named name) (before ++ mirror ∷ []) ≤ 1
    by_test true here =
        let same : name ≡ mirror.name = (bytes_eq-Decides name mirror.name).0 here in
        let none : count_by (is_named name) before ≡ 0 = uncounted name before (rw same new) in
        let counted = count_by-append (is_named name) before (mirror ∷ []) in
        let alone = count_by-cons (is_named name) mirror [] in
        let one = ap (λ (t : Bool). cond {A = ℕ} t 1 0) here in
        omega arith
    by_test false here =
        let counted = count_by-append (is_named name) before (mirror ∷ []) in
        let alone = count_by-cons (is_named name) mirror [] in
        let nothing = ap (λ (t : Bool). cond {A = ℕ} t 1 0) here in
        omega arith

each_once : (name : List ℕ) (before mirrors : List Mirror)
    → first_invalid_after before mirrors ≡ None → count_by (is_named name) before ≤ 1
    → count_by (is_named name) (before ++ mirrors) ≤ 1
each_once name before [] none once = rw (append-nil before) once
each_once name before (mirror ∷ mirrors) none once =
    let good = not_invalid before mirror mirrors none in
    let here = neither (is_mirror mirror) (list_any (is_named mirror.name) before) good.0 in
    let more = each_once name (before ++ mirror ∷ []) mirrors good.1 (once_more name before mirror here.1 once) in
    rw append_assoc at more

-- if no index is reported, the mirrors are valid
AreMirrors-none : (mirrors : List Mirror) → invalid_mirror mirrors ≡ None → AreMirrors mirrors
AreMirrors-none [] none = absurd (cc)
AreMirrors-none (mirror ∷ mirrors) none =
    let apart = no_index (nat_lt max_mirrors (length (mirror ∷ mirrors))) max_mirrors (first_invalid_after [] (mirror ∷ mirrors)) none in
    record {
      some = omega arith;
      few = ltb-false max_mirrors (length (mirror ∷ mirrors)) apart.0;
      formed = all_formed [] (mirror ∷ mirrors) apart.1;
      once = λ name. each_once name [] (mirror ∷ mirrors) apart.1 (omega arith);
    }

by_index : (index : Option ℕ) (mirrors good : List Mirror)
    → option_map_or (λ i. Err (BadMirror i)) index (Ok mirrors) ≡ Ok good → (index ≡ None) × (mirrors ≡ good)
by_index None mirrors good read = (refl, cc)
by_index (Some i) mirrors good read = absurd (cc)

AreMirrors-valid_mirrors : (mirrors good : List Mirror) → valid_mirrors mirrors ≡ Ok good → AreMirrors good
AreMirrors-valid_mirrors mirrors good read =
    let told = by_index (invalid_mirror mirrors) mirrors good read in
    rw (← told.1) (AreMirrors-none mirrors told.0)

-- a step that gave a value followed one that did
bind-ok : {X Y : Type 0} (first : Result X ProfileFault) (step : X → Result Y ProfileFault) (y : Y)
    → (first >>= step) ≡ Ok y → (x : X) × (first ≡ Ok x) × (step x ≡ Ok y)
bind-ok (Ok x) step y given = (x, refl, given)
bind-ok (Err fault) step y given = absurd (cc)

pub AreMirrors-profile_of_bytes : (text : List ℕ) (edits : List Edit) (mirrors : List Mirror)
    → profile_of_bytes text ≡ Ok (edits, mirrors) → AreMirrors mirrors
unfolding profile_of_bytes
AreMirrors-profile_of_bytes text edits mirrors read =
    let members = bind-ok (ok_or (document_of text) NotToml) _ (edits, mirrors) read in
    let schema = bind-ok (schema_of (document members.0)) _ (edits, mirrors) members.2 in
    let profile = bind-ok (entries (profile_of schema.0 (document members.0))) _ (edits, mirrors) schema.2 in
    let good = bind-ok (valid_mirrors profile.0.mirrors) _ (edits, mirrors) profile.2 in
    let pairs : (edits_of profile.0.apps, good.0) ≡ (edits, mirrors) = cc (good.2) in
    let same : good.0 ≡ mirrors = ap (λ (p : List Edit × List Mirror). p.1) pairs in
    rw (← same) (AreMirrors-valid_mirrors profile.0.mirrors good.0 good.1)
