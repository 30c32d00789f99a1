-- The doors of an app's releases, by index.
use Rattle.std.proofs.Common.{◌≡◌, ℕ, ◌+◌, ◌<◌, true, List, [], ◌∷◌, length, get_or, ap, ◌∙◌, arith}
use Rattle.std.specs.List.{All, enumerate_from}
use Rattle.std.proofs.lemmas.List.{get_or-map, length-map}
use Rattle.std.proofs.lemmas.List.FromFn.{get_or-enumerate_from, length-enumerate_from}
use Rattle.catalogue.specs.Forms.{is_size}
use Rattle.catalogue.specs.declared.content.Cohort.{Cohort}
use Rattle.catalogue.specs.declared.content.Release.{Release}
use Rattle.cohorts.specs.declared.pin.Pin.{Pin}
use Rattle.payload_graph.specs.Net.{door_of, doors_of}
use Rattle.payload_graph.specs.Soundness.{AreBounded, AreNumbered, no_door}
use Rattle.payload_graph.specs.declared.door.Door.{Door}

pub length-doors_of :
    (cohort : Cohort) (pin : Pin) (releases : List Release) → length (doors_of cohort pin releases) ≡ length releases
length-doors_of cohort pin releases =
    length-map (enumerate_from 0 releases) (λ (numbered : ℕ × Release). door_of cohort pin releases numbered.0 numbered.1)
    ∙ length-enumerate_from 0 releases

pub get_or-doors_of :
    (cohort : Cohort) (pin : Pin) (releases : List Release) (k : ℕ) (d : Door) (e : Release) →
    k < length releases →
    get_or (doors_of cohort pin releases) k d ≡ door_of cohort pin releases k (get_or releases k e)
get_or-doors_of cohort pin releases k d e within =
    let numbered = get_or-enumerate_from 0 releases k (k, e) within in
    let sized = length-enumerate_from 0 releases in
    let first : 0 + k ≡ k = omega arith in
    get_or-map (λ (numbered : ℕ × Release). door_of cohort pin releases numbered.0 numbered.1) (enumerate_from 0 releases) k (k, e) d (omega arith)
    ∙ ap (λ (numbered : ℕ × Release). door_of cohort pin releases numbered.0 numbered.1) numbered
    ∙ ap (λ n. door_of cohort pin releases n (get_or releases k e)) first

-- the default of an item of a list that has one
pub some_release : (releases : List Release) (k : ℕ) → k < length releases → (e : Release) × (k < length releases)
some_release [] k within = absurd (omega arith)
some_release (e ∷ releases) k within = (e, within)

pub AreNumbered-doors_of : (cohort : Cohort) (pin : Pin) (releases : List Release) → AreNumbered (doors_of cohort pin releases)
AreNumbered-doors_of cohort pin releases k within =
    let sized = length-doors_of cohort pin releases in
    let fits : k < length releases = omega arith in
    ap (λ (door : Door). door.to)
    (get_or-doors_of cohort pin releases k no_door (some_release releases k fits).0 fits)

-- a door has the size of its release
pub All-sized-doors_of :
    (cohort : Cohort) (pin : Pin) (releases : List Release) →
    AreBounded releases → All (λ (door : Door). is_size door.bytes ≡ true) (doors_of cohort pin releases)
All-sized-doors_of cohort pin releases bounded k d within =
    let sized = length-doors_of cohort pin releases in
    let fits : k < length releases = omega arith in
    let e = (some_release releases k fits).0 in
    ap (λ (door : Door). is_size door.bytes) (get_or-doors_of cohort pin releases k d e fits)
    ∙ bounded.sized k e fits
