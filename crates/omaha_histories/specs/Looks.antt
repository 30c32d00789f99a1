-- What a look at a shared history comes to; this project's profile.
use Rattle.std.specs.Prelude.{◌≡◌, ◌==◌, ⊤, ℕ, List, codes, if◌then◌else◌, nat_eq}
use Rattle.std.specs.List.{starts_with}
use Rattle.omaha_histories.specs.declared.followers.looks.Found.{Found}
use Rattle.omaha_histories.specs.declared.followers.looks.Found.TheVariants as found
use Rattle.update_client.specs.declared.posting.Reply.{Reply}

-- what the line of an accepted call says
abbrev pub found_in : List ℕ → Found
found_in line =
    if starts_with nat_eq line (codes "followed ") then found.Adopted
    else (if starts_with nat_eq line (codes "edition ") then found.UpToDate else found.Failed)

-- what a reply says
abbrev pub found_of : Reply → Found
found_of reply = if reply.status == 200 then found_in reply.body.items else found.Failed

-- the listener gave such a reply to `follow`
abbrev pub IsReplied : (List ℕ → Reply → Type 0) → Found → Type 0
IsReplied gave came = (reply : Reply) × gave (codes "follow") reply × (found_of reply ≡ came)

-- rule: Look at a shared history
-- by the replies of the listener: a look comes to `Adopted`, or to `UpToDate`, only if a reply to `follow` says so
abbrev pub IsLook : (List ℕ → Reply → Type 0) → Found → Type 0
IsLook gave found.Adopted = IsReplied gave found.Adopted
IsLook gave found.UpToDate = IsReplied gave found.UpToDate
IsLook gave found.Failed = ⊤
