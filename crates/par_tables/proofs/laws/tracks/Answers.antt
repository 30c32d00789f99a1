use Rattle.par_tables.proofs.TrackLemmas.{tables_are_of_tracks, tracks_have_tables}
use Rattle.par_tables.proofs.laws.tracks.Goals as goal

pub returns-clause-tables : goal.returns-clause-tables
returns-clause-tables c = tables_are_of_tracks

pub returns-clause-tracks : goal.returns-clause-tracks
returns-clause-tracks c = tracks_have_tables
