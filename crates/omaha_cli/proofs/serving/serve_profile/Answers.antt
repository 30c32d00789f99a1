use Rattle.std.proofs.Common.{Ok, Err, inl, inr, refl}
use Rattle.omaha_cli.proofs.serving.serve_profile.Goals as goal

pub returns-clause-serves : goal.returns-clause-serves
returns-clause-serves g c = λ input. record {
  made = Ok (record { service = c.in-Ok.kept.service; first = _; records = _ });
  begun = c.in-Ok.ensures.begins;
  follows = (
    elim c.serve_kept.ensures.hosted [
      | inl hosted ↦ inl (record { place = c.in-Ok-place_of.place; placed = c.in-Ok-place_of.ensures; hosted = hosted })
      | inr alone ↦ inr (inl alone)
    ],
    refl,
  );
}

pub returns-in-Err-clause-serves : goal.returns-in-Err-clause-serves
returns-in-Err-clause-serves g c = λ input. record { made = Err c.in-Err.failure; begun = c.in-Err.ensures.err; follows = (refl, refl, refl) }

pub returns-in_default-clause-serves : goal.returns-in_default-clause-serves
returns-in_default-clause-serves g c = λ input. record {
  made = Ok (record { service = c.in-Ok.kept.service; first = _; records = _ });
  begun = c.in-Ok.ensures.begins;
  follows = (inr (inr (refl, refl, refl)), refl);
}
