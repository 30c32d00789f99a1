-- One more block of a package.
use Rattle.std.proofs.Common.{◌≡◌, ℕ, ◌+◌, ◌-◌, ◌*◌, List, [], ◌∷◌, ◌++◌, length, Option, Some, sym, subst, ap, ◌∙◌, arith}
use Rattle.std.proofs.lemmas.List.{append-nil}
use Rattle.std.proofs.lemmas.Grind.{flat_map-append}
use Rattle.std.specs.Io.KnownBytes.{Appends}
use Rattle.http_wire.specs.Sending.{AppendsPart}
use Rattle.http_wire.proofs.KnownLemmas.{AppendsPart-then}
use Rattle.http_desks.specs.Downloads.{Reads, ReadsFrom, joined_blocks}

pub ReadsFrom-more :
    (reads : Reads) (index : ℕ) (blocks : List (List ℕ)) (block : List ℕ) →
    ReadsFrom reads index blocks →
    reads ((index + length blocks) * 65536) 65536 (Some block) →
    ReadsFrom reads index (blocks ++ block ∷ [])
ReadsFrom-more reads index [] block whole here =
    let same : index + 0 ≡ index = omega arith in
    (subst (λ (at : ℕ). reads (at * 65536) 65536 (Some block)) same here, tt)
ReadsFrom-more reads index (first ∷ blocks) block (read, rest) here =
    let same : index + length (first ∷ blocks) ≡ index + 1 + length blocks = omega arith in
    (read, ReadsFrom-more reads (index + 1) blocks block rest (subst (λ (at : ℕ). reads (at * 65536) 65536 (Some block)) same here))

pub joined_blocks-more :
    (blocks : List (List ℕ)) (block : List ℕ) →
    joined_blocks (blocks ++ block ∷ []) ≡ joined_blocks blocks ++ block
joined_blocks-more blocks block =
    flat_map-append (λ (b : List ℕ). b) blocks (block ∷ [])
    ∙ ap (λ (end : List ℕ). joined_blocks blocks ++ end) (append-nil block)

-- a block that was sent in part, after those that were sent whole
pub AppendsPart-more :
    (before between after : Option (List ℕ)) (blocks : List (List ℕ)) (block : List ℕ) →
    Appends before between (joined_blocks blocks) →
    AppendsPart between after block →
    AppendsPart before after (joined_blocks (blocks ++ block ∷ []))
AppendsPart-more before between after blocks block whole part =
    subst (AppendsPart before after)
    (ap (λ (end : List ℕ). joined_blocks blocks ++ end) (append-nil block) ∙ sym (joined_blocks-more blocks block))
    (AppendsPart-then before between after (joined_blocks blocks) block [] whole part)

pub AppendsPart-last :
    (before between after : Option (List ℕ)) (first last : List ℕ) →
    Appends before between first →
    AppendsPart between after last →
    AppendsPart before after (first ++ last)
AppendsPart-last before between after first last whole part =
    subst (AppendsPart before after) (ap (λ (end : List ℕ). first ++ end) (append-nil last))
    (AppendsPart-then before between after first last [] whole part)

-- the same read, its place and its length said otherwise
pub read-same :
    (reads : Reads) (at here size count : ℕ) (bytes : Option (List ℕ)) →
    at ≡ here →
    size ≡ count →
    reads at size bytes →
    reads here count bytes
read-same reads at here size count bytes place long read =
    subst (λ (n : ℕ). reads here n bytes) long (subst (λ (n : ℕ). reads n size bytes) place read)
