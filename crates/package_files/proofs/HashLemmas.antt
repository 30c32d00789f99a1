-- One more block of a file that is hashed.
use Rattle.std.proofs.Common.{◌≡◌, ℕ, ◌+◌, ◌-◌, ◌*◌, List, [], ◌∷◌, ◌++◌, length, Option, Some, subst, ap, ◌∙◌, arith}
use Rattle.std.proofs.lemmas.List.{append-nil}
use Rattle.std.proofs.lemmas.Grind.{flat_map-append}
use Rattle.http_desks.specs.Downloads.{Reads, ReadsFrom, joined_blocks}

pub ReadsFrom-push :
    (reads : Reads) (index : ℕ) (blocks : List (List ℕ)) (block : List ℕ) →
    ReadsFrom reads index blocks →
    reads ((index + length blocks) * 65536) 65536 (Some block) →
    ReadsFrom reads index (blocks ++ block ∷ [])
ReadsFrom-push reads index [] block whole here =
    let same : index + 0 ≡ index = omega arith in
    (subst (λ (at : ℕ). reads (at * 65536) 65536 (Some block)) same here, tt)
ReadsFrom-push reads index (first ∷ blocks) block (read, rest) here =
    let same : index + length (first ∷ blocks) ≡ index + 1 + length blocks = omega arith in
    (read, ReadsFrom-push reads (index + 1) blocks block rest (subst (λ (at : ℕ). reads (at * 65536) 65536 (Some block)) same here))

pub joined_blocks-push :
    (blocks : List (List ℕ)) (block : List ℕ) →
    joined_blocks (blocks ++ block ∷ []) ≡ joined_blocks blocks ++ block
joined_blocks-push blocks block =
    flat_map-append (λ (b : List ℕ). b) blocks (block ∷ [])
    ∙ ap (λ (end : List ℕ). joined_blocks blocks ++ end) (append-nil block)

-- the same read, its place and its length said otherwise
pub reads-as :
    (reads : Reads) (at here size count : ℕ) (bytes : Option (List ℕ)) →
    at ≡ here → size ≡ count → reads at size bytes → reads here count bytes
reads-as reads at here size count bytes place long read =
    subst (λ (n : ℕ). reads here n bytes) long (subst (λ (n : ℕ). reads n size bytes) place read)
