-- What a reply to `follow` says of a look.
use Rattle.std.proofs.Common.{◌≡◌, ℕ, List, sym}
use Rattle.std.specs.Prelude.{codes}
use Rattle.omaha_histories.specs.Looks.{IsLook, found_of}
use Rattle.omaha_histories.specs.declared.followers.looks.Found.{Found}
use Rattle.omaha_histories.specs.declared.followers.looks.Found.TheVariants as found
use Rattle.update_client.specs.declared.posting.Reply.{Reply}

-- a look comes to what a reply says
pub IsLook-replied :
    (gave : List ℕ → Reply → Type 0) (reply : Reply) (came : Found) → gave (codes "follow") reply → came ≡ found_of reply → IsLook gave came
IsLook-replied gave reply found.Adopted given is = (reply, given, sym is)
IsLook-replied gave reply found.UpToDate given is = (reply, given, sym is)
IsLook-replied gave reply found.Failed given is = tt
