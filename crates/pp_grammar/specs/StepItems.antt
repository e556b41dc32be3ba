-- The automaton's steps between declarations: packages, imports, objects, annotations, and the words before a class.
-- A step is given the token t, what is parsed, d, whether an object is open, and the kind k of the token.
use Rattle.std.specs.Prelude.{Bool, true, false, [], Option, Some, None}
use Rattle.pp_tokens.specs.declared.token.Token.{Token}
use Rattle.pp_tokens.specs.declared.token.TokenKind.{TokenKind}
use Rattle.pp_tokens.specs.declared.token.TokenKind.TheVariants.{Name, Word as Reserve, Op, Mark, Hole, Newline, End}
use Rattle.pp_tokens.specs.declared.token.Reserved.TheVariants.{Case, Def, Import, Object, Package}
use Rattle.pp_tokens.specs.declared.token.Operator.TheVariants.{At}
use Rattle.pp_tokens.specs.declared.token.Bracket.TheVariants.{OpenBrace, CloseBrace, Comma, Dot, Semicolon}
use Rattle.pp_tree.specs.Plain.{Word}
use Rattle.pp_grammar.specs.Words.{word, is_library, is_known_annotation, is_trait_word}
use Rattle.pp_grammar.specs.Units.{Modifiers, unmodified, modified}
use Rattle.pp_grammar.specs.Frames.{unsupported_at, of_class, of_def, Placed, want_name, want_object_name, at_start}
use Rattle.pp_grammar.specs.Frames.{at_item, after_item, after_package, after_package_name, after_import}
use Rattle.pp_grammar.specs.Frames.{after_path_name, after_path_dot, want_chosen, after_chosen, after_object}
use Rattle.pp_grammar.specs.Frames.{after_object_title, after_object_line, after_at, after_annotation}
use Rattle.pp_grammar.specs.Frames.{after_annotation_line, after_case, after_modifiers, Parsed, State, between, within}
use Rattle.pp_grammar.specs.Frames.{failed, done}
use Rattle.pp_grammar.specs.Joining.{with_import, with_object, unit_of}
use Rattle.pp_grammar.specs.StepTypes.{fault_at}

module _ (text : Word) (t : Token) where
  abbrev pub refuse_item : State
  refuse_item = failed (fault_at text t t.kind)

  -- ---- the end of an item

  abbrev pub on_object_closed : Parsed → Bool → State
  on_object_closed d true = between d false after_item
  on_object_closed d false = refuse_item

  abbrev pub on_unit_end : Parsed → Bool → State
  on_unit_end d false = done (unit_of d)
  on_unit_end d true = refuse_item

  abbrev pub on_after_item : Parsed → Bool → TokenKind → State
  on_after_item d inside Newline = between d inside at_item
  on_after_item d inside (Mark Semicolon) = between d inside at_item
  on_after_item d inside (Mark CloseBrace) = on_object_closed d inside
  on_after_item d inside End = on_unit_end d inside
  on_after_item d inside k = refuse_item

  -- ---- imports

  -- An import is read that has another form than `import X._`.
  abbrev pub on_other_import : Parsed → Bool → Placed → Bool → State
  on_other_import d inside p true = between d inside after_item
  on_other_import d inside p false = failed (unsupported_at p.word p.at)

  -- .. at the token behind it
  abbrev pub on_path_end : Parsed → Bool → Placed → Bool → TokenKind → State
  on_path_end d inside p true k = on_after_item d inside k
  on_path_end d inside p false k = failed (unsupported_at p.word p.at)

  -- `import X._`
  abbrev pub on_object_import : Parsed → Bool → Placed → Bool → State
  on_object_import d inside p true = between d inside after_item
  on_object_import d inside p false = between (with_import d p) inside after_item

  abbrev pub on_import_all : Parsed → Bool → Placed → Bool → State
  on_import_all d inside p true = on_object_import d inside p (is_library p.word)
  on_import_all d inside p false = on_other_import d inside p (is_library p.word)

  abbrev pub on_after_import : Parsed → Bool → TokenKind → State
  on_after_import d inside Name = between d inside (after_path_name (record { word = word text t; at = t.from }) true)
  on_after_import d inside k = refuse_item

  abbrev pub on_path_name : Parsed → Bool → Placed → Bool → TokenKind → State
  on_path_name d inside p one (Mark Dot) = between d inside (after_path_dot p one)
  on_path_name d inside p one k = on_path_end d inside p (is_library p.word) k

  abbrev pub on_path_dot : Parsed → Bool → Placed → Bool → TokenKind → State
  on_path_dot d inside p one Name = between d inside (after_path_name p false)
  on_path_dot d inside p one Hole = on_import_all d inside p one
  on_path_dot d inside p one (Mark OpenBrace) = between d inside (want_chosen p)
  on_path_dot d inside p one k = refuse_item

  abbrev pub on_want_chosen : Parsed → Bool → Placed → TokenKind → State
  on_want_chosen d inside p Name = between d inside (after_chosen p)
  on_want_chosen d inside p k = refuse_item

  abbrev pub on_chosen : Parsed → Bool → Placed → TokenKind → State
  on_chosen d inside p (Mark Comma) = between d inside (want_chosen p)
  on_chosen d inside p (Mark CloseBrace) = on_other_import d inside p (is_library p.word)
  on_chosen d inside p k = refuse_item

  -- ---- what begins a declaration

  abbrev pub on_class_word : Parsed → Bool → Modifiers → Option Bool → State
  on_class_word d inside m (Some trait) = within d inside [] (want_name (of_class m.sealed m.case trait))
  on_class_word d inside m None = refuse_item

  abbrev pub on_modified : Parsed → Bool → Modifiers → Option Modifiers → TokenKind → State
  on_modified d inside m (Some n) k = between d inside (after_modifiers n.sealed n.case)
  on_modified d inside m None k = on_class_word d inside m (is_trait_word k)

  abbrev pub on_modifiers : Parsed → Bool → Modifiers → TokenKind → State
  on_modifiers d inside m k = on_modified d inside m (modified m k) k

  -- functions stand in objects alone
  abbrev pub on_def : Parsed → Bool → State
  on_def d true = within d true [] (want_name of_def)
  on_def d false = refuse_item

  -- a class, a function or another annotation is wanted
  abbrev pub on_declaration : Parsed → Bool → TokenKind → State
  on_declaration d inside (Op At) = between d inside after_at
  on_declaration d inside (Reserve Def) = on_def d inside
  on_declaration d inside (Reserve Case) = between d inside after_case
  on_declaration d inside k = on_modifiers d inside unmodified k

  -- behind `case`, the first word of a class
  abbrev pub on_after_case : Parsed → Bool → TokenKind → State
  on_after_case d inside (Reserve Object) = within d inside [] want_object_name
  on_after_case d inside k = on_modifiers d inside (record { sealed = false; case = true }) k

  abbrev pub on_annotation_name : Parsed → Bool → Bool → State
  on_annotation_name d inside true = between d inside after_annotation
  on_annotation_name d inside false = failed (unsupported_at (word text t) t.from)

  abbrev pub on_after_at : Parsed → Bool → TokenKind → State
  on_after_at d inside Name = on_annotation_name d inside (is_known_annotation (word text t))
  on_after_at d inside k = refuse_item

  abbrev pub on_annotation : Parsed → Bool → TokenKind → State
  on_annotation d inside Newline = between d inside after_annotation_line
  on_annotation d inside k = on_declaration d inside k

  -- ---- items and members

  -- objects stand outside of objects alone
  abbrev pub on_object_word : Parsed → Bool → State
  on_object_word d false = between d false after_object
  on_object_word d true = refuse_item

  -- an item or a member may begin here
  abbrev pub on_item : Parsed → Bool → TokenKind → State
  on_item d inside Newline = between d inside at_item
  on_item d inside (Mark Semicolon) = between d inside at_item
  on_item d inside (Mark CloseBrace) = on_object_closed d inside
  on_item d inside End = on_unit_end d inside
  on_item d inside (Reserve Import) = between d inside after_import
  on_item d inside (Reserve Object) = on_object_word d inside
  on_item d inside k = on_declaration d inside k

  abbrev pub on_start : Parsed → Bool → TokenKind → State
  on_start d inside Newline = between d inside at_start
  on_start d inside (Mark Semicolon) = between d inside at_start
  on_start d inside (Reserve Package) = between d inside after_package
  on_start d inside k = on_item d inside k

  abbrev pub on_after_package : Parsed → Bool → TokenKind → State
  on_after_package d inside Name = between d inside after_package_name
  on_after_package d inside k = refuse_item

  abbrev pub on_package_name : Parsed → Bool → TokenKind → State
  on_package_name d inside (Mark Dot) = between d inside after_package
  on_package_name d inside Newline = between d inside at_start
  on_package_name d inside (Mark Semicolon) = between d inside at_start
  on_package_name d inside k = refuse_item

  abbrev pub on_after_object : Parsed → Bool → TokenKind → State
  on_after_object d inside Name = between (with_object d (word text t)) inside after_object_title
  on_after_object d inside k = refuse_item

  abbrev pub on_object_line : Parsed → TokenKind → State
  on_object_line d (Mark OpenBrace) = between d true at_item
  on_object_line d k = refuse_item

  abbrev pub on_object_title : Parsed → TokenKind → State
  on_object_title d Newline = between d false after_object_line
  on_object_title d k = on_object_line d k
