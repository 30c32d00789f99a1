-- The labels of samples: Prometheus, exposition format 0.0.4.
use Rattle.std.specs.Prelude.{ℕ, ◌==◌, if◌then◌else◌, List, ◌++◌, chars, codes, encode_utf8, flat_map, Option, None, Some}
use Rattle.std.specs.Option.{option_map_or}

-- what is in place of a backslash, a double quote or a line feed
abbrev pub escape_of : ℕ → Option (List ℕ)
escape_of c =
    if c == 92 then Some (codes "\\\\") else
    if c == 34 then Some (codes "\\\"") else
    if c == 10 then Some (codes "\\n") else None

-- the bytes of a character
abbrev pub label_char : ℕ → List ℕ
label_char c = option_map_or (λ escape. escape) (escape_of c) (encode_utf8 c)

-- rule: Value of a label
-- the bytes of each character of a string, in their order
abbrev pub label_value : List ℕ → List ℕ
label_value value = flat_map label_char (chars value)

-- one label between braces
abbrev pub label : List ℕ → List ℕ → List ℕ
label name value = codes "{" ++ (name ++ (codes "=\"" ++ (label_value value ++ codes "\"}")))

-- the labels of a cohort of an app
abbrev pub cohort_labels : List ℕ → List ℕ → List ℕ
cohort_labels app cohort =
    codes "{app=\"" ++ (label_value app ++ (codes "\",cohort=\"" ++ (label_value cohort ++ codes "\"}")))
