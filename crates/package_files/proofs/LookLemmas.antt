-- Packages that are looked for one after the other.
use Rattle.std.proofs.Common.{◌≡◌, ◌∙◌, ℕ, ◌+◌, ◌<◌, List, [], ◌∷◌, ◌++◌, drop, flat_map, get_or, length, map, take, ap, ap₂, refl, subst, sym}
use Rattle.std.specs.Prelude.{Result, Ok, Err}
use Rattle.std.proofs.lemmas.Grind.{flat_map-append}
use Rattle.std.proofs.lemmas.List.{append-nil, append_assoc, drop_more, map-append, take-append-drop, take_more}
use Rattle.std.proofs.lemmas.List.Elements.{All-append, All-nil}
use Rattle.catalogue.specs.declared.edit.Edit.{Edit}
use Rattle.catalogue.specs.Lookups.{diff_package, full_package, packages_in, packages_of}
use Rattle.catalogue.specs.declared.content.App.{App}
use Rattle.catalogue.specs.declared.content.Diff.{Diff}
use Rattle.catalogue.specs.declared.content.Release.{Release}
use Rattle.package_files.specs.Added.{added_by, added_in}
use Rattle.package_files.specs.Findings.{Package}
use Rattle.package_files.specs.Lacking.{AreThere, IsLooked, IsThere, Lacks, LacksFirst, Sized, Sizes, sized, sizes_in, sizes_of}
use Rattle.package_files.specs.Looking.{app_sizes, diff_sizes, edit_sizes, release_sizes}
use Rattle.package_files.specs.declared.lacking.Lack.{Lack}
use Rattle.package_files.specs.declared.lacking.Lacking.{Lacking}

-- or it isn't
pub LacksFirst-one :
    (sizes : Sizes) (name : List ℕ) (declared : ℕ) (what : Lack) → Lacks (sizes name) declared what →
    LacksFirst sizes ((name, declared) ∷ []) name what
LacksFirst-one sizes name declared what lacks =
    record { before = []; declared = declared; later = []; is = refl; there = All-nil (IsThere sizes); lacks = lacks }

-- the first of some packages that isn't there is the first of all, if those before are there
pub LacksFirst-after :
    (sizes : Sizes) (before part : List Sized) (name : List ℕ) (what : Lack) → AreThere sizes before →
    LacksFirst sizes part name what → LacksFirst sizes (before ++ part) name what
LacksFirst-after sizes before part name what there first = record {
  before = before ++ first.before;
  declared = first.declared;
  later = first.later;
  is = ap (λ (list : List Sized). before ++ list) first.is
      ∙ sym (append_assoc before first.before ((name, first.declared) ∷ first.later));
  there = All-append (IsThere sizes) before first.before there first.there;
  lacks = first.lacks;
}

pub LacksFirst-before :
    (sizes : Sizes) (part later : List Sized) (name : List ℕ) (what : Lack) →
    LacksFirst sizes part name what → LacksFirst sizes (part ++ later) name what
LacksFirst-before sizes part later name what first = record {
  before = first.before;
  declared = first.declared;
  later = first.later ++ later;
  is = ap (λ (list : List Sized). list ++ later) first.is
      ∙ append_assoc first.before ((name, first.declared) ∷ first.later) later;
  there = first.there;
  lacks = first.lacks;
}

module _ {X : Type 0} (part : X → List Sized) (sizes : Sizes) (items : List X) (index : ℕ) (item : X)
    (within : index < length items) (here : item ≡ get_or items index item)
    (there : AreThere sizes (flat_map part (take index items))) where
  -- the packages of one more item are there
  pub AreThere-next : AreThere sizes (part item) → AreThere sizes (flat_map part (take (index + 1) items))
  AreThere-next is =
      let before = flat_map part (take index items) in
      subst (AreThere sizes)
      (sym (ap (flat_map part) (take_more items index item within)
      ∙ flat_map-append part (take index items) (get_or items index item ∷ [])
      ∙ ap (λ (list : List Sized). before ++ list) (append-nil (part (get_or items index item)))
      ∙ ap (λ (other : X). before ++ part other) (sym here)))
      (All-append (IsThere sizes) before (part item) there is)

  -- or one of them isn't
  pub LacksFirst-at : (name : List ℕ) (what : Lack) → LacksFirst sizes (part item) name what → LacksFirst sizes (flat_map part items) name what
  LacksFirst-at name what first =
      let before = flat_map part (take index items) in
      let later = flat_map part (drop (index + 1) items) in
      subst (λ (list : List Sized). LacksFirst sizes list name what)
      (ap (λ (other : X). before ++ (part other ++ later)) here
      ∙ sym (flat_map-append part (take index items) (get_or items index item ∷ drop (index + 1) items))
      ∙ ap (λ (list : List X). flat_map part (take index items ++ list)) (sym (drop_more items index item within))
      ∙ ap (flat_map part) (take-append-drop index items))
      (LacksFirst-after sizes before (part item ++ later) name what there
      (LacksFirst-before sizes (part item) later name what first))

-- what was found of some packages is what was found of all, if those before are there
IsLooked-after :
    (sizes : Sizes) (before part : List Sized) (looked : Result (Unit {0}) Lacking) → AreThere sizes before →
    IsLooked sizes part looked → IsLooked sizes (before ++ part) looked
IsLooked-after sizes before part (Ok done) there is = All-append (IsThere sizes) before part there is
IsLooked-after sizes before part (Err lacking) there is = LacksFirst-after sizes before part lacking.name.now lacking.lack there is

-- the packages of items that have one each
map-as-flat : {X : Type 0} (f : X → Sized) (items : List X) → flat_map (λ (x : X). f x ∷ []) items ≡ map f items
map-as-flat f [] = refl
map-as-flat f (item ∷ items) = ap (λ (list : List Sized). f item ∷ list) (map-as-flat f items)

map-map : {X : Type 0} (g : X → Package) (items : List X) → map sized (map g items) ≡ map (λ (x : X). sized (g x)) items
map-map g [] = refl
map-map g (item ∷ items) = ap (λ (list : List Sized). sized (g item) ∷ list) (map-map g items)

-- those of an app: the releases' and the differentials'
pub app_sizes-is : (app : App) → flat_map release_sizes app.releases ++ flat_map diff_sizes app.diffs ≡ app_sizes app
app_sizes-is app =
    ap₂ (λ (releases diffs : List Sized). releases ++ diffs)
    (map-as-flat (λ (r : Release). sized (full_package r)) app.releases ∙ sym (map-map full_package app.releases))
    (map-as-flat (λ (d : Diff). sized (diff_package d)) app.diffs ∙ sym (map-map diff_package app.diffs))
    ∙ sym (map-append sized (map full_package app.releases) (map diff_package app.diffs))

-- and those of all apps
pub sizes_of-is : (apps : List App) → flat_map app_sizes apps ≡ sizes_of apps
sizes_of-is [] = refl
sizes_of-is (app ∷ apps) =
    ap (λ (list : List Sized). app_sizes app ++ list) (sizes_of-is apps)
    ∙ sym (map-append sized (packages_in app) (packages_of apps))

-- what was found of an app, by its full packages and then by its differentials
pub IsLooked-app :
    (sizes : Sizes) (app : App) (releases : List Release) (diffs : List Diff) (looked : Result (Unit {0}) Lacking) →
    releases ≡ app.releases → diffs ≡ app.diffs → AreThere sizes (flat_map release_sizes releases) →
    IsLooked sizes (flat_map diff_sizes diffs) looked → IsLooked sizes (app_sizes app) looked
IsLooked-app sizes app releases diffs looked same_releases same_diffs there is =
    subst (λ (list : List Sized). IsLooked sizes list looked)
    (ap₂ (λ (r : List Release) (d : List Diff). flat_map release_sizes r ++ flat_map diff_sizes d) same_releases same_diffs
    ∙ app_sizes-is app)
    (IsLooked-after sizes (flat_map release_sizes releases) (flat_map diff_sizes diffs) looked there is)

-- a full package isn't there
pub LacksFirst-app :
    (sizes : Sizes) (app : App) (releases : List Release) (name : List ℕ) (what : Lack) → releases ≡ app.releases →
    LacksFirst sizes (flat_map release_sizes releases) name what → LacksFirst sizes (app_sizes app) name what
LacksFirst-app sizes app releases name what same first =
    subst (λ (list : List Sized). LacksFirst sizes list name what)
    (ap (λ (r : List Release). flat_map release_sizes r ++ flat_map diff_sizes app.diffs) same ∙ app_sizes-is app)
    (LacksFirst-before sizes (flat_map release_sizes releases) (flat_map diff_sizes app.diffs) name what first)

-- and those of a script
pub sizes_in-is : (batch : List Edit) → flat_map edit_sizes batch ≡ sizes_in batch
sizes_in-is [] = refl
sizes_in-is (edit ∷ batch) =
    ap (λ (list : List Sized). edit_sizes edit ++ list) (sizes_in-is batch)
    ∙ sym (map-append sized (added_by edit) (added_in batch))
