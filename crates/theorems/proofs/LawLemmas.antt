-- The laws, in the content that a history leads to.
use Rattle.std.proofs.Common.{◌≡◌, None, Some, inl, inr, sym, ◌∙◌, subst}
use Rattle.catalogue.specs.VersionLaws.{BelowIsIrreflexive, BelowIsTransitive}
use Rattle.catalogue.specs.Histories.{HistoriesAreValid}
use Rattle.cohorts.specs.Laws.{ParsedIsPrinted, PrintedIsParsed}
use Rattle.omaha_json.specs.declared.request.AppAsk.{AppAsk}
use Rattle.editions.specs.Editions.{content_of}
use Rattle.theorems.specs.Laws.{IsStep, OffersAreSteps, StatusesSay, WalksAreLeast, WalksAreShort, WalksEnd, WalksExist, WalksKeepTracks, WalksNeedChains}
use Rattle.theorems.proofs.EndLemmas.{walk-ends, walk-least, walk-nowhere, walk-track}
use Rattle.theorems.proofs.HistoryLemmas.{IsValid-content}
use Rattle.theorems.proofs.ReplyLemmas.{Says-app_reply}
use Rattle.theorems.proofs.StepLemmas.{Stays-or-Moves}
use Rattle.theorems.proofs.WalkLemmas.{walk-exists, walk-short}

module _ (irreflexive : BelowIsIrreflexive) (transitive : BelowIsTransitive) (are_valid : HistoriesAreValid) where
  pub statuses_say : StatusesSay
  statuses_say history mirrors session client ask choice outcome asks chosen decided =
      Says-app_reply irreflexive transitive (content_of history) (IsValid-content are_valid history) mirrors session client ask
      choice outcome asks chosen decided

  module _ (printed_is : PrintedIsParsed) (parsed_is : ParsedIsPrinted) where
    pub offers_are_steps : OffersAreSteps
    offers_are_steps history mirrors session client ask next reply asks replied next_is =
        elim (Stays-or-Moves irreflexive transitive printed_is parsed_is (content_of history) (IsValid-content are_valid history)
        mirrors session client ask reply asks replied) [
          | inl stays ↦
              let none : None ≡ Some next = sym stays.next_is ∙ next_is in
              cc
          | inr moves ↦
              let both : Some moves.next ≡ Some next = sym moves.next_is ∙ next_is in
              let same : moves.next ≡ next = cc in
              subst (λ (a : AppAsk). IsStep (content_of history) session client ask reply a) same moves.step
        ]

    pub walks_exist : WalksExist
    walks_exist history mirrors session client ask some asks =
        walk-exists irreflexive transitive printed_is parsed_is (content_of history) (IsValid-content are_valid history) mirrors
        session client some ask asks

    pub walks_are_short : WalksAreShort
    walks_are_short history mirrors session client ask replies asks walk =
        walk-short irreflexive transitive printed_is parsed_is (content_of history) (IsValid-content are_valid history) mirrors
        session client replies ask asks walk

    pub walks_end : WalksEnd
    walks_end history mirrors session client ask replies asks walk =
        walk-ends irreflexive transitive printed_is parsed_is (content_of history) (IsValid-content are_valid history) mirrors
        session client replies ask asks walk

    pub walks_are_least : WalksAreLeast
    walks_are_least history mirrors session client ask replies chain asks walk leads =
        walk-least irreflexive transitive printed_is parsed_is (content_of history) (IsValid-content are_valid history) mirrors
        session client replies ask chain asks walk leads

    pub walks_need_chains : WalksNeedChains
    walks_need_chains history mirrors session client ask replies asks walk none =
        walk-nowhere irreflexive transitive printed_is parsed_is (content_of history) (IsValid-content are_valid history) mirrors
        session client replies ask asks walk none

    pub walks_keep_tracks : WalksKeepTracks
    walks_keep_tracks history mirrors session client ask replies asks walk =
        walk-track irreflexive transitive printed_is parsed_is (content_of history) (IsValid-content are_valid history) mirrors
        session client replies ask asks walk
