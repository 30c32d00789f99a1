-- The reply to a message, by the parts that were written.
use Rattle.std.proofs.Common.{◌≡◌, ◌≢◌, ◌<◌, ◌≤◌, ℕ, Bool, true, false, not, eqb, List, [], ◌∷◌, ◌++◌, append-nil, length, Option, None, Some, Result, Ok, Err, inl, inr, refl, sym, subst, ap, ◌∙◌, cond, arith}
use Rattle.std.proofs.lemmas.Bool.{eqb-true, eq-eqb}
use Rattle.std.specs.Prelude.{codes}
use Rattle.std.specs.Option.{option_eq}
use Rattle.std.specs.Io.KnownBytes.{Appends}
use Rattle.http_wire.specs.Replies.{head_bytes}
use Rattle.http_wire.specs.declared.heads.reply.ReplyHead.{ReplyHead}
use Rattle.http_wire.specs.declared.heads.status.Status.{Status}
use Rattle.http_wire.specs.declared.heads.status.Status.TheVariants as status
use Rattle.http_desks.specs.Downloads.{Reads, download, full_blocks, joined_blocks}
use Rattle.http_wire.specs.Sending.{AppendsPart}
use Rattle.values.specs.declared.failed.Failed.{Failed}
use Rattle.http_wire.proofs.KnownLemmas.{Appends-then, AppendsPart-then}
use Rattle.http_desks.specs.declared.answering.Begun.{Begun}
use Rattle.http_desks.specs.declared.answering.Begun.TheVariants as begun
use Rattle.http_desks.specs.declared.answering.Handled.{Handled}
use Rattle.http_desks.specs.declared.answering.Handled.TheVariants.{Answered, Cut}
use Rattle.http_desks.specs.declared.method.Method.{Method}
use Rattle.values.specs.declared.declared.Declared.{Declared}
use Rattle.http_desks.specs.Begins.{Begins, BeginsFetch, IsAtOnce, Rests, SendsHead, done_of}
use Rattle.http_desks.specs.Calls.{Call, Leads, Looks}
use Rattle.http_desks.specs.Uses.{Asked, Barred, Mismatched, Misused, Read, Broken, Elsewhere, Fetched, IsPaged, IsRouted, IsUse, Paged, Unknown, Untaken, Use, calls_of, is_get, route_of}
use Rattle.http_desks.specs.Replies.{Answers, Fetches, head_lines, reply_to}

-- the head of a reply is the lines of its parts
pub head_bytes-lines :
    (head : ReplyHead) →
    head_bytes head ≡ head_lines head.status head.kind.now head.allow head.size head.closes
unfolding head_bytes head_lines
head_bytes-lines head = refl

-- the reply of a desk, its parts said otherwise
pub answer_text :
    (line real : Status) (kind given body items : List ℕ) (size : ℕ) (closes : Bool) →
    line ≡ real →
    kind ≡ given →
    body ≡ items →
    size ≡ length items →
    head_lines line kind None size closes ++ body ≡ head_lines real given None (length items) closes ++ items
answer_text line real kind given body items size closes lines kinds bodies sizes = cc

-- a use that fits the narrower fits the wider
pub Answers-wider :
    {D : Type 0} (IsFit IsWide : Use → Type 0) (steps : D → Call → D → Type 0) (kind body : List ℕ) (closes : Bool)
    (before after : D) (old new : Option (List ℕ)) (result : Result Handled Failed) →
    ((used : Use) → IsFit used → IsWide used) →
    Answers IsFit steps kind body closes before after old new result →
    Answers IsWide steps kind body closes before after old new result
Answers-wider IsFit IsWide steps kind body closes before after old new result wider answers = record {
  used = answers.used;
  fits = wider answers.used answers.fits;
  calls = answers.calls;
  writes = answers.writes;
}

not_true : (b : Bool) → false ≡ not b → b ≡ true
not_true true e = refl
not_true false e = cc

-- two sizes that are the same
pub same_size : (told : Option ℕ) (size : ℕ) → false ≡ not (option_eq eqb told (Some size)) → told ≡ Some size
same_size None size told_same = cc
same_size (Some other) size told_same = ap Some (eqb-true other size (not_true (eqb other size) told_same))

-- two sizes that differ
pub other_size : (told : Option ℕ) (size : ℕ) → true ≡ not (option_eq eqb told (Some size)) → told ≢ Some size
other_size None size told_other = λ e. cc
other_size (Some other) size told_other =
    λ e. let n : other ≡ size = cc in let same = eq-eqb other size n in cc

-- the head of a package
abbrev pub package_head : Declared → Bool → List ℕ
package_head declared closes = head_lines status.Success (codes "application/octet-stream") None declared.size closes

failed_by :
    (b : Bool) (sizes : Option ℕ → Type 0) (reads : Reads) (declared : Declared) (closes : Bool) (told : Option ℕ)
    (old new : Option (List ℕ)) (failed : Failed) →
    b ≡ not (option_eq eqb told (Some declared.size)) →
    sizes told →
    AppendsPart old new (package_head declared closes ++ []) →
    SendsHead sizes reads declared closes old new (Err failed)
failed_by true sizes reads declared closes told old new failed e tells part =
    (Mismatched, (told, tells, other_size told declared.size e), tt, part)
failed_by false sizes reads declared closes told old new failed e tells part =
    (Broken [], (subst sizes (same_size told declared.size e) tells, omega arith, tt), refl, part)

-- the head was written in part: the file has the declared size, or another
pub head_failed :
    (sizes : Option ℕ → Type 0) (reads : Reads) (declared : Declared) (closes : Bool) (told : Option ℕ)
    (old new : Option (List ℕ)) (failed : Failed) →
    sizes told →
    AppendsPart old new (package_head declared closes ++ []) →
    SendsHead sizes reads declared closes old new (Err failed)
head_failed sizes reads declared closes told old new failed tells part =
    failed_by (not (option_eq eqb told (Some declared.size))) sizes reads declared closes told old new failed refl tells part

-- the file has another size
pub head_alone :
    (sizes : Option ℕ → Type 0) (reads : Reads) (declared : Declared) (closes : Bool) (told : Option ℕ)
    (old new : Option (List ℕ)) →
    sizes told →
    true ≡ not (option_eq eqb told (Some declared.size)) →
    Appends old new (package_head declared closes ++ []) →
    SendsHead sizes reads declared closes old new (Ok Cut)
head_alone sizes reads declared closes told old new tells other head =
    (Mismatched, (told, tells, other_size told declared.size other), tt, (refl, head))

AppendsPart-behind :
    (old between new : Option (List ℕ)) (first text : List ℕ) →
    Appends old between first →
    AppendsPart between new text →
    AppendsPart old new (first ++ text)
AppendsPart-behind old between new first text whole part =
    subst (AppendsPart old new) (ap (λ (end : List ℕ). first ++ end) (append-nil text))
    (AppendsPart-then old between new first text [] whole part)

no_block : (blocks : List (List ℕ)) → length blocks ≤ 0 → blocks ≡ []
no_block [] none = refl
no_block (block ∷ blocks) none = absurd (omega (arith, none))

-- a package without bytes was sent after its head
pub empty_then :
    (sizes : Option ℕ → Type 0) (reads : Reads) (declared : Declared) (closes : Bool)
    (old new : Option (List ℕ)) (result : Result Handled Failed) →
    declared.size ≡ 0 →
    Fetches sizes reads declared closes old new result →
    SendsHead sizes reads declared closes old new result
empty_then sizes reads declared closes old new result none (Mismatched, fits, writes) = (Mismatched, fits, tt, writes)
empty_then sizes reads declared closes old new result none (Read blocks last, fits, writes) =
    (Read blocks last, fits, none, writes)
empty_then sizes reads declared closes old new result none (Broken blocks, (sized, few, read), writes) =
    let short : length blocks ≤ 0 = subst (λ (n : ℕ). length blocks ≤ full_blocks n) none few in
    (Broken blocks, (sized, few, read), no_block blocks short, writes)

-- a package was sent after its head
pub head_then :
    (sizes : Option ℕ → Type 0) (reads : Reads) (declared : Declared) (closes : Bool)
    (old between new : Option (List ℕ)) (result : Result Handled Failed) →
    sizes (Some declared.size) →
    Appends old between (package_head declared closes) →
    Rests reads declared between new result →
    Fetches sizes reads declared closes old new result
head_then sizes reads declared closes old between new (Ok handled) sized head (whole, is, (blocks, last, read, is_whole, sent)) = (
  Read blocks last,
  (sized, read),
  (
    ap (λ (b : Bool). Some (cond b Answered Cut)) (sym is_whole) ∙ ap Some (sym is),
    Appends-then old between new (package_head declared closes) (download declared.hash blocks last) head sent,
  ),
)
head_then sizes reads declared closes old between new (Err failed) sized head (inl (blocks, few, read, part)) = (
  Broken blocks,
  (sized, few, read),
  AppendsPart-behind old between new (package_head declared closes) (joined_blocks blocks) head part,
)
head_then sizes reads declared closes old between new (Err failed) sized head (inr (blocks, last, read, right, part)) = (
  Read blocks (Some last),
  (sized, read),
  AppendsPart-behind old between new (package_head declared closes) (download declared.hash blocks (Some last)) head
      (subst (AppendsPart between new) (sym (ap (λ b. cond b (joined_blocks blocks ++ last) (joined_blocks blocks)) right)) part),
)

-- the file has the declared size
pub sized_as :
    (sizes : Option ℕ → Type 0) (told : Option ℕ) (size : ℕ) → sizes told →
    false ≡ not (option_eq eqb told (Some size)) → sizes (Some size)
sized_as sizes told size tells same = subst sizes (same_size told size same) tells

paged_use :
    (path : List ℕ) (tells : ℕ → Type 0) (sizes : List ℕ → Option ℕ → Type 0) (reads : List ℕ → Reads) (method : Method)
    (target other : List ℕ) →
    route_of path target ≡ Elsewhere other →
    (used : Use) → IsPaged method other used → IsUse path tells sizes reads method target used × IsAtOnce used
paged_use path tells sizes reads method target other elsewhere (Paged shown by page) (same, is) =
    ((elsewhere ∙ ap Elsewhere (sym same), is), tt)
paged_use path tells sizes reads method target other elsewhere Misused is = elim is [ ]
paged_use path tells sizes reads method target other elsewhere Barred is = elim is [ ]
paged_use path tells sizes reads method target other elsewhere (Asked moment answer) is = elim is [ ]
paged_use path tells sizes reads method target other elsewhere (Unknown name) is = elim is [ ]
paged_use path tells sizes reads method target other elsewhere (Untaken name declared) is = elim is [ ]
paged_use path tells sizes reads method target other elsewhere (Fetched name declared fetch) is = elim is [ ]

module _
    {D : Type 0} (steps : D → Call → D → Type 0) (kind body : List ℕ) (closes : Bool)
    (before after : D)
  where
    -- a reply that is written
    pub done_begins :
        (IsFit : Use → Type 0) (old new : Option (List ℕ)) (result : Result Handled Failed) →
        Answers (λ used. IsFit used × IsAtOnce used) steps kind body closes before after old new result →
        Begins IsFit steps kind body closes before after old new (done_of result)
    done_begins IsFit old new (Ok handled) answers = answers
    done_begins IsFit old new (Err failed) answers = answers

    -- the page of a path was asked for
    pub paged_begins :
        (path : List ℕ) (tells : ℕ → Type 0) (sizes : List ℕ → Option ℕ → Type 0) (reads : List ℕ → Reads) (method : Method)
        (target other : List ℕ) (old new : Option (List ℕ)) (result : Result Handled Failed) →
        route_of path target ≡ Elsewhere other →
        Answers (IsPaged method other) steps kind body closes before after old new result →
        Answers (λ used. IsUse path tells sizes reads method target used × IsAtOnce used) steps kind body closes before after
        old new result
    paged_begins path tells sizes reads method target other old new result elsewhere answers =
        Answers-wider (IsPaged method other) (λ used. IsUse path tells sizes reads method target used × IsAtOnce used) steps
        kind body closes before after old new result
        (paged_use path tells sizes reads method target other elsewhere) answers

    -- a package that the desk knows
    pub fetch_begins :
        (sizes : Option ℕ → Type 0) (reads : Reads) (method : Method) (name : List ℕ) (declared : Declared)
        (old new : Option (List ℕ)) (result : Result Begun Failed) →
        is_get method ≡ true → Leads steps before (Looks name (Some declared) ∷ []) after →
        BeginsFetch sizes reads name declared closes old new result →
        Begins (IsRouted sizes reads method name) steps kind body closes before after old new result
    fetch_begins sizes reads method name declared old new (Ok (begun.Done handled)) get calls (fetch, fits, empty, writes) = record {
      used = Fetched name declared fetch;
      fits = ((refl, get, fits), empty);
      calls = calls;
      writes = writes;
    }
    fetch_begins sizes reads method name declared old new (Ok (begun.Sends path told)) get calls (same, known, some, sized, head) =
        subst (λ (n : List ℕ). IsRouted sizes reads method name (Fetched n told (Broken [])) × (0 < told.size)
        × Leads steps before (calls_of body (Fetched n told (Broken []))) after
        × Appends old new (reply_to kind closes (Fetched n told (Broken [])))) (sym same)
        (subst (λ (d : Declared). IsRouted sizes reads method name (Fetched name d (Broken [])) × (0 < d.size)
        × Leads steps before (calls_of body (Fetched name d (Broken []))) after
        × Appends old new (reply_to kind closes (Fetched name d (Broken [])))) (sym known)
        ((refl, get, (sized, omega arith, tt)), some, calls, head))
    fetch_begins sizes reads method name declared old new (Err failed) get calls (fetch, fits, empty, writes) = record {
      used = Fetched name declared fetch;
      fits = ((refl, get, fits), empty);
      calls = calls;
      writes = writes;
    }

    -- a use that fits the narrower fits the wider
    pub Begins-wider :
        (IsFit IsWide : Use → Type 0) (old new : Option (List ℕ)) (result : Result Begun Failed) →
        ((used : Use) → IsFit used → IsWide used) →
        Begins IsFit steps kind body closes before after old new result →
        Begins IsWide steps kind body closes before after old new result
    Begins-wider IsFit IsWide old new (Ok (begun.Done handled)) wider begins =
        Answers-wider (λ used. IsFit used × IsAtOnce used) (λ used. IsWide used × IsAtOnce used) steps kind body closes
        before after old new (Ok handled) (λ used fits. (wider used fits.0, fits.1)) begins
    Begins-wider IsFit IsWide old new (Ok (begun.Sends name declared)) wider (fits, some, calls, head) =
        (wider (Fetched name.now declared (Broken [])) fits, some, calls, head)
    Begins-wider IsFit IsWide old new (Err failed) wider begins =
        Answers-wider (λ used. IsFit used × IsAtOnce used) (λ used. IsWide used × IsAtOnce used) steps kind body closes
        before after old new (Err failed) (λ used fits. (wider used fits.0, fits.1)) begins

    -- the package after its head
    pub rest_answers :
        (path : List ℕ) (tells : ℕ → Type 0) (sizes : List ℕ → Option ℕ → Type 0) (reads : List ℕ → Reads) (method : Method)
        (target name : List ℕ) (declared : Declared) (old between new : Option (List ℕ)) (result : Result Handled Failed) →
        IsUse path tells sizes reads method target (Fetched name declared (Broken [])) →
        Leads steps before (calls_of body (Fetched name declared (Broken []))) after →
        Appends old between (reply_to kind closes (Fetched name declared (Broken []))) →
        Rests (reads name) declared between new result →
        Answers (IsUse path tells sizes reads method target) steps kind body closes before after old new result
    rest_answers path tells sizes reads method target name declared old between new result (routed, get, (sized, few, none)) calls head rests =
        let head_alone : Appends old between (package_head declared closes) =
        subst (Appends old between) (append-nil (package_head declared closes)) head in
        let (fetch, fits, writes) = head_then (sizes name) (reads name) declared closes old between new result sized head_alone rests in record {
          used = Fetched name declared fetch;
          fits = (routed, get, fits);
          calls = calls;
          writes = writes;
        }
