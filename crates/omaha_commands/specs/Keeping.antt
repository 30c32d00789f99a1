-- The apps that a batch leaves as they are; this project's profile.
use Rattle.std.specs.Prelude.{not, Bool, List, map}
use Rattle.std.specs.List.{list_any}
use Rattle.catalogue.specs.Forms.{same_id}
use Rattle.catalogue.specs.declared.content.App.{App}
use Rattle.catalogue.specs.declared.edit.Edit.{Edit}
use Rattle.catalogue.specs.Histories.{app_named}

-- no edit of a batch names an app, in any case of letters
abbrev pub is_left : List Edit → App → Bool
is_left batch app = not (list_any (λ edit. same_id (app_named edit) app.id) batch)

-- a flag for each app says so
abbrev pub kept_flags : List Edit → List App → List Bool
kept_flags batch apps = map (is_left batch) apps
