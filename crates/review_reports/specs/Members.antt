-- The members of JSON objects, by a table of them; this project's profile.
use Rattle.std.specs.Prelude.{List}
use Rattle.std.specs.List.{fold}
use Rattle.serde_json.specs.Data.{Data, Members, boolean, no_members, object, put, string}
use Rattle.review_reports.specs.Objects.{bytes_data, whole}
use Rattle.review_reports.specs.declared.members.Member.{Member}
use Rattle.review_reports.specs.declared.members.Member.TheVariants as member

-- some members with one more, at its place in the byte order of their names
abbrev pub with_one : Members → Member → Members
with_one members (member.String name text) = put name.now (string text.now) members
with_one members (member.Whole name amount) = put name.now (whole amount) members
with_one members (member.Boolean name is_so) = put name.now (boolean is_so) members
with_one members (member.Bytes name bytes) = put name.now (bytes_data bytes) members

-- the object with the members of a table
abbrev pub object_of : List Member → Data
object_of table = object (fold with_one no_members table)
