-- The states of the automaton that the parser's values stand for.
use Rattle.std.specs.Prelude.{◌≡◌, [], Result, MatchResult}
use Rattle.pp_tree.specs.Shown.{decl_of, import_of, unit_of}
use Rattle.pp_grammar.specs.Frames as plain
use Rattle.pp_parse_state.specs.declared.fault.Stop.{Stop}
use Rattle.pp_parse_state.specs.declared.fault.Stop.TheVariants.{Memory, Syntax, Unsupported}
use Rattle.pp_parse_state.specs.Shown.{Shown, mode_of, under_mode}
use Rattle.pp_parse_state.specs.Values.{placed_of, stacked}
use Rattle.pp_parse_items.specs.declared.place.ItemMode.{ItemMode}
use Rattle.pp_parse_items.specs.declared.place.ItemMode.TheVariants as item
use Rattle.pp_parse_items.specs.declared.place.Parsed.{Parsed}
use Rattle.pp_parse_items.specs.declared.place.Place.{Place}
use Rattle.pp_parse_items.specs.declared.place.Place.TheVariants.{Between, Within, Done}

abbrev pub item_mode_of : ItemMode → plain.ItemMode
item_mode_of item.AtStart = plain.at_start
item_mode_of item.AtItem = plain.at_item
item_mode_of item.AfterItem = plain.after_item
item_mode_of item.AfterPackage = plain.after_package
item_mode_of item.AfterPackageName = plain.after_package_name
item_mode_of item.AfterImport = plain.after_import
item_mode_of (item.AfterPathName p one) = plain.after_path_name (placed_of p) one
item_mode_of (item.AfterPathDot p one) = plain.after_path_dot (placed_of p) one
item_mode_of (item.WantChosen p) = plain.want_chosen (placed_of p)
item_mode_of (item.AfterChosen p) = plain.after_chosen (placed_of p)
item_mode_of item.AfterObject = plain.after_object
item_mode_of item.AfterObjectTitle = plain.after_object_title
item_mode_of item.AfterObjectLine = plain.after_object_line
item_mode_of item.AfterAt = plain.after_at
item_mode_of item.AfterAnnotation = plain.after_annotation
item_mode_of item.AfterAnnotationLine = plain.after_annotation_line
item_mode_of item.AfterCase = plain.after_case
item_mode_of (item.AfterModifiers sealed case) = plain.after_modifiers sealed case

abbrev pub parsed_of : Parsed → plain.Parsed
parsed_of d = record {
  imports = stacked import_of d.imports.items [];
  objects = stacked (λ o. o.now) d.objects.items [];
  decls = stacked (λ x. decl_of x.now.tree) d.decls.items [];
}

-- the state, with what is parsed and what lies on the stack
abbrev pub state_of : plain.Parsed → Shown → Place → plain.State
state_of d s (Between inside m) = plain.between d inside (item_mode_of m)
state_of d s (Within inside m) = plain.within d inside (under_mode m s) (mode_of m s.parts)
state_of d s (Done u) = plain.done (unit_of u.now.tree)

-- where memory lasts, the automaton fails so
abbrev pub Fails : Stop → plain.State → Type 0
Fails Memory st = Unit {0}
Fails (Syntax at) st = st ≡ plain.failed (plain.syntax_at at)
Fails (Unsupported w at) st = st ≡ plain.failed (plain.unsupported_at w.now at)

-- where memory lasts, the answer is the state of the automaton
abbrev pub Steps : Result Place Stop → plain.Parsed → Shown → plain.State → Type 0
Steps r d s st = MatchResult r (λ p. st ≡ state_of d s p) (λ e. Fails e st)
