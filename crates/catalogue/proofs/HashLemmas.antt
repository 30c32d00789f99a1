-- What a string of 64 lower-case hexadecimal digits spells is a hash.
use Rattle.std.proofs.Common.{◌≡◌, ℕ, suc, ◌<◌, Bool, true, false, cond, nat_le, List, [], ◌∷◌, length, Option, Some, None, Result, Ok, Err, replicate, refl, ap, sym, ◌∙◌, arith}
use Rattle.std.specs.List.{list_all}
use Rattle.std.specs.Option.{is_none, unwrap_or}
use Rattle.std.specs.Result.{result_ok}
use Rattle.std.proofs.lemmas.Bool.{and_from, eq-eqb, le-leb}
use Rattle.hex.specs.Hex.{IsBytes, decode_sized}
use Rattle.hex.specs.declared.error.FromHexError.{FromHexError}
use Rattle.hex.proofs.HexLemmas.{decode_of-ok, decode_sized-ok, decode_sized-twice}
use Rattle.catalogue.specs.Forms.{hash_named, hash_of, is_hash, is_hash_digit}

is_bytes-from_IsBytes : (bytes : List ℕ) → IsBytes bytes → list_all (λ byte. nat_le byte 255) bytes ≡ true
is_bytes-from_IsBytes [] bounded = refl
is_bytes-from_IsBytes (x ∷ xs) bounded =
    let first : x < 256 = bounded 0 in
    and_from _ _ (le-leb x 255 (omega arith)) (is_bytes-from_IsBytes xs (λ i. bounded (suc i)))

is_hash-decoded : (text bytes : List ℕ) → decode_sized text 32 ≡ Ok bytes → is_hash bytes ≡ true
is_hash-decoded text bytes decoded =
    let twice = decode_sized-ok text 32 bytes decoded in
    let whole = decode_of-ok text bytes (sym (decode_sized-twice text 32 twice) ∙ decoded) in
    and_from _ _ (eq-eqb (length bytes) 32 (omega (arith, twice, whole.2))) (is_bytes-from_IsBytes bytes whole.3)

-- what a string spells is a hash
pub is_hash-hash_of : (text bytes : List ℕ) → hash_of text ≡ Some bytes → is_hash bytes ≡ true
unfolding hash_of
is_hash-hash_of text bytes spelled = cases (list_all is_hash_digit text) spelled
  where
    decoded :
        (r : Result (List ℕ) FromHexError) →
        decode_sized text 32 ≡ r →
        result_ok r ≡ Some bytes →
        is_hash bytes ≡ true
    decoded (Ok read) is same = let e : read ≡ bytes = cc in is_hash-decoded text bytes (is ∙ ap Ok e)
    decoded (Err e) is same = absurd cc

    cases : (b : Bool) → cond b (result_ok (decode_sized text 32)) None ≡ Some bytes → is_hash bytes ≡ true
    cases true same = decoded (decode_sized text 32) refl same
    cases false same = absurd cc

-- the hash of an accepted release is one
pub is_hash-hash_named : (text : List ℕ) → is_none (hash_of text) ≡ false → is_hash (hash_named text) ≡ true
is_hash-hash_named text spelled = cases (hash_of text) refl spelled
  where
    cases : (o : Option (List ℕ)) → hash_of text ≡ o → is_none o ≡ false → is_hash (unwrap_or o (replicate 32 0)) ≡ true
    cases (Some bytes) is some = is_hash-hash_of text bytes is
    cases None is some = absurd cc
