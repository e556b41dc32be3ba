-- Sources have at most one program.
use Rattle.std.proofs.Common.{◌≡◌, ℕ, List, ◌∷◌, refl, sym, ap, ◌∙◌, subst}
use Rattle.pp_front.specs.Programs.{HaveTyping, IsProgramOf, SpellUnits, no_sources, one_source}
use Rattle.pp_mono_laws.proofs.Tables.{one_table}
use Rattle.pp_mono_laws.proofs.Whole.{programs_are_unique}
use Rattle.pp_mono.specs.Concrete.{IsConcrete}
use Rattle.pp_prog.specs.declared.program.Program.{Program}
use Rattle.pp_source.proofs.Excluded.{units_are_unique}
use Rattle.pp_tree.specs.Plain.{UnitTree}
use Rattle.pp_typed.specs.declared.typed.Typed.{Typed}
use Rattle.pp_types_laws.proofs.Unique.{unique}
use Rattle.pp_types_laws.specs.Typing.{HasTyping}

pub one_units : {sources : List (List ℕ)} {us vs : List UnitTree} → SpellUnits sources us → SpellUnits sources vs
    → us ≡ vs
one_units no_sources no_sources = refl
one_units (one_source {bytes = bytes} {unit = u} {units = us} a rest) (one_source {unit = v} {units = vs} b more) =
    ap (λ z. z ∷ us) (units_are_unique bytes u v a b) ∙ ap (λ l. v ∷ l) (one_units rest more)

pub one_typing : (sources : List (List ℕ)) (t u : Typed) → HaveTyping sources t → HaveTyping sources u → t ≡ u
one_typing sources t u a b =
    unique a.units t u a.typing (subst (λ l. HasTyping l u) (one_units b.spelled a.spelled) b.typing)

-- two programs of the same sources are the same in all that is seen of them
pub record AreAlike (p q : Program) : Type 0 where
  pub types : p.types ≡ q.types
  pub functions : p.functions ≡ q.functions
  pub checks : p.checks ≡ q.checks

pub one_program : (sources : List (List ℕ)) (p q : Program) → IsProgramOf sources p → IsProgramOf sources q
    → AreAlike p q
one_program sources p q a b =
    let same = one_typing sources b.typed a.typed b.typing a.typing in
    let one = programs_are_unique a.typed sources p q a.concrete
    (subst (λ t. IsConcrete t sources q) same b.concrete) in
    record { types = one_table p.types q.types one.0 one.1; functions = one.2; checks = one.3 }

pub swapped : {p q : Program} → AreAlike p q → AreAlike q p
swapped s = record { types = sym s.types; functions = sym s.functions; checks = sym s.checks }
