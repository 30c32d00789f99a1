-- One review more after a change, with its source.
use Rattle.std.proofs.Common.{◌≡◌, ℕ, ◌++◌, inl, inr, List, [], ◌∷◌, get_or, length, Option, None, sym, ◌∙◌, subst, arith}
use Rattle.std.proofs.lemmas.Bool.{cases_lt}
use Rattle.std.proofs.lemmas.List.{get_or_append_left, get_or_push, length-append}
use Rattle.catalogue.specs.declared.content.App.{App}
use Rattle.reviews.specs.Copies.{HasSource, HaveSources}
use Rattle.reviews.specs.declared.review.TrackReview.{TrackReview}

-- one review more, with its source
pub HaveSources-more :
    (before after : List App) (olds news : List TrackReview) (sources : List (Option ℕ)) (new : TrackReview) (source : Option ℕ) →
    length sources ≡ length news → HaveSources before after olds news sources → HasSource before after olds new source →
    HaveSources before after olds (news ++ new ∷ []) (sources ++ source ∷ [])
HaveSources-more before after olds news sources new source sized have has index d within = elim (cases_lt index (length news)) [
  | inl less ↦
      let review = get_or_append_left news (new ∷ []) d index less in
      let at = get_or_append_left sources (source ∷ []) None index (omega arith) in
      subst (λ (r : TrackReview). HasSource before after olds r (get_or (sources ++ source ∷ []) index None)) (sym review)
      (subst (HasSource before after olds (get_or news index d)) (sym at) (have index d less))
  | inr past ↦
      let size = length-append news (new ∷ []) in
      let last : length news ≡ index = omega arith in
      let review = get_or_push news new d index last in
      let at = get_or_push sources source None index (sized ∙ last) in
      subst (λ (r : TrackReview). HasSource before after olds r (get_or (sources ++ source ∷ []) index None)) (sym review)
      (subst (HasSource before after olds new) (sym at) has)
]
