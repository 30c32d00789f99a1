use Rattle.par_tables.specs.Places.{ArePlacesOf}
use Rattle.par_tables.proofs.places.places_of.Given as goal

abbrev pub invariant-loop-app : goal.invariant-loop-app
invariant-loop-app l = ArePlacesOf l.catalogue l.app l.places
