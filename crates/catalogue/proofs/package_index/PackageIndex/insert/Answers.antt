use Rattle.std.proofs.Common.{◌≡◌, ◌∙◌, ℕ, ◌<◌, List, ap, cond, length, map, set, slice_get, string_bytes, subst, option_map, Option, Some, refl, arith}
use Rattle.std.specs.Arc.{arc_value}
use Rattle.std.specs.Str.{bytes_eq}
use Rattle.std.proofs.lemmas.List.{length-map, map-set}
use Rattle.std.proofs.lemmas.Option.{slice_get-map, slice_get_read}
use Rattle.values.specs.declared.declared.Declared.{Declared}
use Rattle.catalogue.proofs.ShardLemmas.{found_among-set}
use Rattle.catalogue.specs.PackageIndex.{found_among, shard_of}
use Rattle.catalogue.specs.declared.package_index.Shard.{Shard}
use Rattle.catalogue.proofs.package_index.PackageIndex.insert.Goals as goal

pub returns : goal.returns
returns c other =
    let name = string_bytes c.args.name in
    let shards = c.complete.new.self.shards.items in
    let place = c.shard_of-place.result in
    let old = c.index_mut.result.now in
    let new = c.insert_in.new.shard in
    let is : place ≡ shard_of name = c.shard_of-place.ensures.value ∙ ap shard_of c.as_str.ensures.value in
    let count = c.in_ok-complete.ensures.count in
    let bound = c.shard_of-place.ensures.bound in
    let within : place < length shards = omega arith in
    let read : slice_get shards place ≡ Some old =
    slice_get_read shards (length shards) place old refl within c.index_mut.ensures.value in
    let there : slice_get (map arc_value shards) place ≡ Some (arc_value old) =
    slice_get-map arc_value shards place ∙ ap (option_map arc_value) read in
    let inside : place < length (map arc_value shards) = rw (length-map shards arc_value) within in
    ap (λ (all : List Shard). found_among all other) (map-set arc_value shards place new ∙ ap (λ n. set (map arc_value shards) n (arc_value new)) is)
    ∙ found_among-set (map arc_value shards) (arc_value new) (arc_value old) name c.args.declared
    (subst (λ (n : ℕ). slice_get (map arc_value shards) n ≡ Some (arc_value old)) is there)
    (subst (λ (n : ℕ). n < length (map arc_value shards)) is inside)
    c.in_ok-insert_in.ensures other
    ∙ ap (λ (found : Option Declared). cond (bytes_eq name other) (Some c.args.declared) found) (c.in_ok-complete.ensures.found other)
