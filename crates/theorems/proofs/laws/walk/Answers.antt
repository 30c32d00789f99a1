use Rattle.theorems.proofs.LawLemmas.{walks_are_least, walks_are_short, walks_end, walks_exist, walks_keep_tracks, walks_need_chains}
use Rattle.theorems.proofs.laws.walk.Goals as goal

pub returns : goal.returns
returns c =
    let irreflexive = c.order.ensures.irreflexive in
    let transitive = c.order.ensures.transitive in
    let valid = c.validity.ensures in
    let printed = c.cohort_texts.ensures.printed in
    let parsed = c.cohort_texts.ensures.parsed in
    record {
      exists = walks_exist irreflexive transitive valid printed parsed;
      short = walks_are_short irreflexive transitive valid printed parsed;
      ends = walks_end irreflexive transitive valid printed parsed;
      least = walks_are_least irreflexive transitive valid printed parsed;
      nowhere = walks_need_chains irreflexive transitive valid printed parsed;
      track = walks_keep_tracks irreflexive transitive valid printed parsed;
    }
