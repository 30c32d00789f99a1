-- No object that a table makes has a float.
use Rattle.std.proofs.Common.{◌≡◌, ℕ, List, [], ◌∷◌, false, Ordering, Less, Equal, Greater, Some, None, nat_cmp, refl}
use Rattle.std.proofs.lemmas.Bool.{or_parts}
use Rattle.std.specs.Cmp.Lexicographic.{slice_cmp}
use Rattle.std.specs.List.{fold}
use Rattle.std.specs.Ordering.{match_ordering}
use Rattle.serde_json.specs.Data.{Data, Members, boolean, member, no_members, null, put, string}
use Rattle.serde_json.specs.Written.{has_float, members_have_float}
use Rattle.review_reports.specs.Members.{object_of, with_one}
use Rattle.review_reports.specs.Objects.{whole}
use Rattle.review_reports.specs.declared.members.Member.{Member}
use Rattle.review_reports.specs.declared.members.Member.TheVariants as one

plain_by : (o : Ordering) (a b c : Members) → members_have_float a ≡ false → members_have_float b ≡ false → members_have_float c ≡ false
    → members_have_float (match_ordering o a b c) ≡ false
plain_by Less a b c x y z = x
plain_by Equal a b c x y z = y
plain_by Greater a b c x y z = z

plain_put : (k : List ℕ) (d : Data) (ms : Members) → has_float d ≡ false → members_have_float ms ≡ false → members_have_float (put k d ms) ≡ false
plain_put k d no_members new rest = rw new
plain_put k d (member l e ms) new rest =
    let (old, others) = or_parts (has_float e) _ rest in
    plain_by (slice_cmp nat_cmp k l) (member k d (member l e ms)) (member l d ms) (member l e (put k d ms)) (rw new rest) (rw new others)
    (rw old (plain_put k d ms new others))

plain_one : (ms : Members) (made : Member) → members_have_float ms ≡ false → members_have_float (with_one ms made) ≡ false
plain_one ms (one.String name text) rest = plain_put name.now (string text.now) ms refl rest
plain_one ms (one.Whole name amount) rest = plain_put name.now (whole amount) ms refl rest
plain_one ms (one.Boolean name is_so) rest = plain_put name.now (boolean is_so) ms refl rest
plain_one ms (one.Bytes name None) rest = plain_put name.now null ms refl rest
plain_one ms (one.Bytes name (Some bytes)) rest = plain_put name.now (whole bytes) ms refl rest

plain_all : (ms : Members) (table : List Member) → members_have_float ms ≡ false → members_have_float (fold with_one ms table) ≡ false
plain_all ms [] rest = rest
plain_all ms (made ∷ table) rest = plain_all (with_one ms made) table (plain_one ms made rest)

pub plain : (table : List Member) → has_float (object_of table) ≡ false
plain table = plain_all no_members table refl
