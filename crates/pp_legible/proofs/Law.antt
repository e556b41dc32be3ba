-- The program of a typing of units that short texts spell is legible, and names of functions begin with no blank.
use Rattle.std.proofs.Common.{◌≡◌, ◌∙◌, ℕ, List, [], ◌∷◌, All, IsUtf8, map, refl}
use Rattle.std.proofs.Common.{sym, ap, subst, arith}
use Rattle.std.specs.Prelude.{Some, Contains, slice_get}
use Rattle.std.proofs.lemmas.List.Elements.{All-cons, All-nil}
use Rattle.pp_check_places.proofs.Law.{checks_stand, places_tell_checks}
use Rattle.pp_legible.proofs.Classes.{IsWordOfTyped, ctor_names_differ, ctors_are_words, defs_are_words}
use Rattle.pp_legible.proofs.Classes.{objects_are_bare, params_are_words, roots_are_words}
use Rattle.pp_legible.proofs.Ctors.{AreLike, HaveOneName, IsTyped, ctors_unlike, from_typed}
use Rattle.pp_legible.proofs.Functions.{IsNamedBy, has_name, names_tell}
use Rattle.pp_legible.proofs.Named.{printed_begins, printed_fine}
use Rattle.pp_legible.proofs.Places.{small_place}
use Rattle.pp_legible.proofs.Unlike.{Unlike, places_unlike, unlike_places}
use Rattle.pp_legible.specs.Laws.{NamesBeginPlainly, ProgramsAreLegible}
use Rattle.pp_instances.specs.Names.{printed}
use Rattle.pp_instances.specs.Order.{member_of}
use Rattle.pp_instances.specs.declared.member.Decl.TheVariants as kind
use Rattle.pp_instances.specs.declared.member.Member.{Member}
use Rattle.pp_tokens.proofs.Every.{Every}
use Rattle.pp_line_contents.proofs.Spans.{every_contained}
use Rattle.pp_line_contents.specs.Laws.{BeginsPlainly, HasNoColon, HasNoMark, IsLegible, IsSmallPlace}
use Rattle.pp_line_contents.specs.Lines.{HasNoNewline}
use Rattle.pp_members.proofs.Proper.{members_are_proper}
use Rattle.pp_mono.specs.Concrete.{IsConcrete, function_members, root_members}
use Rattle.pp_order.proofs.Laws.{listed_names_differ}
use Rattle.pp_ordinary.proofs.Fit.{typing_fit}
use Rattle.pp_ordinary.specs.Laws.{AreShort, IsFit}
use Rattle.pp_ordinary.specs.Spelled.{EachSpells, more_texts, no_texts}
use Rattle.pp_plain_names.proofs.Names.{no_mark}
use Rattle.pp_plain_names.specs.Laws.{IsWord}
use Rattle.pp_prog.specs.declared.check.Check.{Check}
use Rattle.pp_prog.specs.declared.expr.Function.{Function}
use Rattle.pp_prog.specs.declared.expr.Param.{Param}
use Rattle.pp_prog.specs.declared.program.Program.{Program}
use Rattle.pp_prog.specs.declared.types.Ctor.{Ctor}
use Rattle.pp_translation.specs.Bare.{bare_function}
use Rattle.pp_translation.specs.Functions.{param_at}
use Rattle.pp_tree.specs.Plain.{UnitTree}
use Rattle.pp_typed.specs.declared.sort.GenericSort.{GenericSort}
use Rattle.pp_typed.specs.declared.typed.Typed.{Typed}
use Rattle.pp_typed.specs.declared.typed.TypedParam.{TypedParam}
use Rattle.pp_types_laws.specs.Typing.{HasTyping}

all_utf8 : {texts : List (List ℕ)} {units : List UnitTree} → EachSpells texts units → All IsUtf8 texts
all_utf8 no_texts = All-nil IsUtf8
all_utf8 (more_texts {text = text} {texts = texts} one rest) = All-cons IsUtf8 text texts one.utf8 (all_utf8 rest)

-- a word has no marks
unmarked : (name : List ℕ) → IsWord name → HasNoMark name
unmarked name word b here = (
  no_mark name 10 (omega arith) refl word b here,
  no_mark name 40 (omega arith) refl word b here,
  no_mark name 41 (omega arith) refl word b here,
  no_mark name 44 (omega arith) refl word b here,
)

-- the parameters at the arguments of an instance have the names of the typed ones
abbrev IsWordOf : Param → Type 0
IsWordOf q = IsWord q.name

params_at : (roots : List Member) (args : List GenericSort) (ts : List TypedParam) → Every IsWordOfTyped ts
    → Every IsWordOf (map (param_at roots args) ts)
params_at roots args [] h = tt
params_at roots args (t ∷ ts) h = (h.0, params_at roots args ts h.1)

-- ---- functions

module _ (typed : Typed) (texts : List (List ℕ)) (p : Program) (concrete : IsConcrete typed texts p) where
  own_function : (i : ℕ) (f : Function) → slice_get p.functions i ≡ Some f
      → IsNamedBy typed texts (root_members concrete.roots) (function_members concrete.functions) concrete.functions
      (bare_function f)
  own_function i f at =
      has_name typed texts (root_members concrete.roots) (function_members concrete.functions) concrete.functions
      p.functions concrete.has_functions i f at

  -- what is true of the printed names of members is true of the names of functions
  named_alike : (P : List ℕ → Type 0) → ((m : Member) → P (printed typed m)) → (i : ℕ) (f : Function)
      → slice_get p.functions i ≡ Some f → P f.name
  named_alike P each i f at =
      let own = own_function i f at in
      subst P (sym (own.name ∙ concrete.listed.functions.names own.among.place own.from own.among.here))
      (each (member_of typed kind.Function own.from))

pub names_begin_plainly : NamesBeginPlainly
names_begin_plainly texts units typed p spells h concrete =
    named_alike typed texts p concrete BeginsPlainly
    (printed_begins typed (roots_are_words texts units typed spells h) (defs_are_words texts units typed spells h))

-- ---- the whole program

module _ (texts : List (List ℕ)) (units : List UnitTree) (typed : Typed) (p : Program) (are : AreShort texts)
    (spells : EachSpells texts units) (h : HasTyping units typed) (concrete : IsConcrete typed texts p) where
  abbrev roots : List Member
  roots = root_members concrete.roots

  fit : IsFit texts typed
  fit = typing_fit texts units typed are spells h

  utf8 : All IsUtf8 texts
  utf8 = all_utf8 spells

  -- a constructor of the program is one of the typed units
  own_ctor : (c : ℕ) (a : Ctor) → slice_get p.types.ctors c ≡ Some a
      → IsTyped typed roots 0 a
  own_ctor c a at =
      from_typed typed roots 0 roots a
      (record { place = c; here = ap (λ l. slice_get l c) (sym concrete.has_ctors) ∙ at })

  ctors_tell : (c d : ℕ) (a b : Ctor) → slice_get p.types.ctors c ≡ Some a → slice_get p.types.ctors d ≡ Some b
      → a.of ≡ b.of → a.name ≡ b.name → c ≡ d
  ctors_tell c d a b there here of name =
      let names = places_unlike HaveOneName typed.ctors (ctor_names_differ texts units typed spells h) in
      unlike_places AreLike (λ x y like. (sym like.0, sym like.1)) p.types.ctors
      (subst (Unlike AreLike) (sym concrete.has_ctors) (ctors_unlike typed roots names 0 roots)) c d a b there here
      (of, name)

  small : (c : ℕ) (a : Check) → slice_get p.checks c ≡ Some a → IsSmallPlace a.place
  small c a at =
      let o = checks_stand typed texts p fit.stands fit.apart concrete c a at in
      subst IsSmallPlace o.2 (small_place texts o.0 are.few are.short utf8 o.1)

  params : (i : ℕ) (f : Function) (q : Param) → slice_get p.functions i ≡ Some f → Contains f.params q
      → HasNoNewline q.name
  params i f q at here =
      let own = own_function typed texts p concrete i f at in
      let words = params_at roots own.from.args own.def.params
      (params_are_words texts units typed spells h own.from.number own.def own.defined) in
      no_mark q.name 10 (omega arith) refl
      (every_contained IsWordOf f.params (subst (Every IsWordOf) (sym own.params) words) q here)

  legible : IsLegible p
  legible = record {
    unmarked = λ c a at.
        let own = own_ctor c a at in
        subst HasNoMark (sym own.name) (unmarked own.from.name
        (ctors_are_words texts units typed spells h own.among.place own.from own.among.here));
    ctors = ctors_tell;
    objects = λ c a at is.
        let own = own_ctor c a at in
        own.bare (objects_are_bare texts units typed spells h own.among.place own.from own.among.here
        (sym own.object ∙ is));
    named = named_alike typed texts p concrete HasNoColon
        (printed_fine typed (roots_are_words texts units typed spells h)
        (defs_are_words texts units typed spells h));
    begins = names_begin_plainly texts units typed p spells h concrete;
    functions =
        names_tell typed texts roots (function_members concrete.functions) concrete.functions p.functions
        (listed_names_differ typed concrete.members concrete.functions concrete.roots fit.sorted
        (λ m has. members_are_proper typed concrete.members fit.sorted concrete.instances m has) concrete.listed).0
        concrete.has_functions;
    params = params;
    checks = places_tell_checks typed texts p fit.stands fit.apart utf8 concrete;
    places = small;
  }

pub programs_are_legible : ProgramsAreLegible
programs_are_legible texts units typed p are spells h concrete = legible texts units typed p are spells h concrete
