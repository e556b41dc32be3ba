-- The program of all instances is valid, and is theirs.
use Rattle.std.proofs.Common.{◌≡◌, ◌<◌, ◌^◌, ℕ, List, [], map, length, Result, Ok, Err, IfOk, sym, ap, ◌∙◌, arith}
use Rattle.pp_known.proofs.Program.{IsOfInstances, program_is_concrete, program_is_valid, program_is_whole}
use Rattle.pp_known.specs.SettingOf.{AreTranslated, IsSettingOf}
use Rattle.pp_instances.specs.declared.member.Instance.{Instance}
use Rattle.pp_mono.specs.Concrete.{IsConcrete, place_of_check}
use Rattle.pp_mono.specs.Steps.{AreInstancesOf, IsTargetOf}
use Rattle.pp_prog.specs.Valid.{IsValid}
use Rattle.pp_prog.specs.declared.check.Check.{Check}
use Rattle.pp_prog.specs.declared.expr.Function.{Function}
use Rattle.pp_prog.specs.declared.program.Program.{Program}
use Rattle.pp_prog.specs.declared.types.TypeTable.{TypeTable}
use Rattle.pp_translate.specs.Target.{setting}
use Rattle.pp_translate.specs.declared.target.Target.{Target}
use Rattle.pp_translation.specs.Bare.{bare_function}
use Rattle.pp_translation.specs.Defs.{TranslatesDefs, checks_from}
use Rattle.pp_translation.specs.Numbers.{ctors}
use Rattle.pp_translation.specs.Places.{places_of}
use Rattle.pp_translation.specs.declared.frame.CheckAt.{CheckAt}
use Rattle.pp_typed.specs.declared.typed.Typed.{Typed}
use Rattle.pp_validity.proofs.BareDefs.{all_bare}

pub made_program : {E : Type 0} {types : TypeTable} {functions : List Function} {checks : List Check}
    (Q : Program → Type 0)
    (r : Result Program E) → IfOk r (λ p. p.types ≡ types) → IfOk r (λ p. p.functions ≡ functions)
    → IfOk r (λ p. p.checks ≡ checks)
    → ((p : Program) → p.types ≡ types → p.functions ≡ functions → p.checks ≡ checks → Q p) → IfOk r Q
made_program Q (Ok p) t f c go = go p t f c
made_program Q (Err e) t f c go = tt

module _ (typed : Typed) (texts : List (List ℕ)) (fs rs : List Instance) (all : AreInstancesOf typed fs rs)
    (target : Target) (is : IsTargetOf typed fs rs target) (made : List Function) (cs : List CheckAt)
    (t : TranslatesDefs typed (setting target) texts fs made [] cs) where
  set : IsSettingOf typed all.members fs rs (setting target)
  set = record {
    well = all.sorted;
    instances = all.instances;
    listed = all.listed;
    roots = is.roots;
    functions = is.functions;
    datatypes = is.datatypes;
    ctors = is.ctors ∙ ap (ctors typed) (sym is.roots);
  }

  translated : AreTranslated typed texts fs (setting target) made cs
  translated = record {
    translates = t;
    groups = is.groups texts target.numbers.roots made (all_bare typed (setting target) texts t);
  }

  pub few_made : length made < 2 ^ 32
  few_made =
      let even = (program_is_whole typed all.members fs rs (setting target) set texts made cs translated).even in
      let few = all.few_functions in omega arith

  pub is_valid : length cs < 2 ^ 32 → IsValid target.types made (checks_from texts 0 cs)
  is_valid = program_is_valid typed all.members fs rs (setting target) set texts made cs translated few_made

  of_instances : IsOfInstances typed texts fs rs target.types made (checks_from texts 0 cs)
  of_instances = program_is_concrete typed all.members fs rs (setting target) set texts made cs translated

  pub is_concrete : (p : Program) → p.types ≡ target.types → p.functions ≡ made → p.checks ≡ checks_from texts 0 cs
      → IsConcrete typed texts p
  is_concrete p types functions checks =
      let o = of_instances in
      record {
        members = all.members;
        instances = all.instances;
        few = all.few;
        functions = fs;
        roots = rs;
        listed = all.listed;
        has_datatypes = ap (λ (z : TypeTable). z.datatypes) types ∙ o.has_datatypes;
        has_ctors = ap (λ (z : TypeTable). z.ctors) types ∙ o.has_ctors;
        has_functions = ap (map bare_function) functions ∙ o.has_functions;
        has_places = ap (map place_of_check) checks ∙ o.has_places
            ∙ ap (λ (z : TypeTable). places_of typed texts z made made fs) (sym types)
            ∙ ap (λ (z : List Function). places_of typed texts p.types z z fs) (sym functions);
      }
