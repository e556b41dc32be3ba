-- The answers of the calls that no round unfolds are a table's, at calls of functions that there are.
use Rattle.std.proofs.Common.{◌≡◌, ℕ, Bool, true, false, List, [], ◌∷◌, map, Option, Some, is_some, slice_get, refl}
use Rattle.std.proofs.Common.{sym, ap, ◌∙◌, Contains, inl, inr}
use Rattle.std.specs.Prelude.{nat_eq, nat_le, ◌&&◌, if◌then◌else◌}
use Rattle.std.proofs.lemmas.Bool.{and_parts}
use Rattle.pp_prog.specs.declared.expr.Function.{Function}
use Rattle.pp_prog.specs.declared.id.FunctionId.{FunctionId}
use Rattle.pp_prog.specs.declared.value.Value.{Value}
use Rattle.pp_eval.specs.Equality.{equal, pass_all}
use Rattle.pp_checks.proofs.Tallest.{at_head, head_or}
use Rattle.pp_guess_runs.specs.Answers.{Entry, answer_in, is_of}
use Rattle.pp_steps.specs.Guesses.{Standing}
use Rattle.pp_steps.specs.Meaning.{Values, bit}
use Rattle.pp_steps_run.specs.Told.{On}
use Rattle.pp_guess_steps.specs.OwnWorld.{answers_left, entry_of, is_entry, table_of}
use Rattle.pp_guess_steps.proofs.Members.{at_tail, nothing_in}
use Rattle.pp_guess_steps.proofs.OwnWorld.{same_function}

-- an entry before the others, where it is one
answer_if : (t : Bool) (d : Entry) (es : List Entry) (g : FunctionId) (args : List Value)
    → answer_in (if t then d ∷ es else es) g args
    ≡ (if t then (if is_of d g args then Some d.answer else answer_in es g args) else answer_in es g args)
answer_if true d es g args = refl
answer_if false d es g args = refl

-- the tests of an answer, and those of an entry
choices : (a b e q r : Bool) → (e ≡ true → a ≡ true) → (x left right : Option Value) → left ≡ right
    → (if b && (e && (q && r)) then x else left) ≡ (if a && (b && r) then (if e && q then x else right) else right)
choices true true true true true h x left right is = refl
choices true true true true false h x left right is = is
choices true true true false true h x left right is = is
choices true true true false false h x left right is = is
choices true true false q true h x left right is = is
choices true true false q false h x left right is = is
choices true false e q r h x left right is = is
choices false true true q r h x left right is = let no : false ≡ true = h refl in cc
choices false true false q r h x left right is = is
choices false false e q r h x left right is = is

module _ (functions : List Function) (ρ : Values) (n : ℕ) where
  -- at functions that there are the answers are the table's
  pub table_answers : (cs : List Standing) (g : FunctionId) (args : List Value)
      → is_some (slice_get functions g.0) ≡ true
      → answers_left ρ cs n g args ≡ answer_in (table_of functions ρ n cs) g args
  table_answers [] g args some = refl
  table_answers (c ∷ cs) g args some =
      choices (is_some (slice_get functions c.call.callee.0)) (nat_le n c.call.wait) (nat_eq c.call.callee.0 g.0)
      (pass_all (map equal (map ρ c.call.args)) args) (bit (ρ c.call.reach) && bit (ρ c.has))
      (λ e. ap (λ (h : FunctionId). is_some (slice_get functions h.0)) (same_function c.call.callee g e) ∙ some)
      (Some (ρ c.result)) (answers_left ρ cs n g args) (answer_in (table_of functions ρ n cs) g args)
      (table_answers cs g args some)
      ∙ sym (answer_if (is_entry functions ρ n c) (entry_of ρ c) (table_of functions ρ n cs) g args)

  -- an entry is of a call
  pub record EntryOf (cs : List Standing) (e : Entry) (c : Standing) : Type 0 where
    pub there : Contains cs c
    pub function : is_some (slice_get functions c.call.callee.0) ≡ true
    pub reach : On ρ c.call.reach
    pub has : On ρ c.has
    pub is : entry_of ρ c ≡ e

  pub call_of : (cs : List Standing) (e : Entry) → Contains (table_of functions ρ n cs) e → (c : Standing)
      × EntryOf cs e c
  call_of [] e has = absurd (nothing_in e has)
  call_of (c ∷ cs) e has = by (is_entry functions ρ n c) refl has
      (λ more. let d = call_of cs e more in (
        d.0,
        record {
          there = at_tail c d.0 cs d.1.there;
          function = d.1.function;
          reach = d.1.reach;
          has = d.1.has;
          is = d.1.is;
        },
      ))
    where
      by : (t : Bool) → is_entry functions ρ n c ≡ t
          → Contains (if t then entry_of ρ c ∷ table_of functions ρ n cs else table_of functions ρ n cs) e
          → (Contains (table_of functions ρ n cs) e → (d : Standing) × EntryOf (c ∷ cs) e d)
          → (d : Standing) × EntryOf (c ∷ cs) e d
      by true is has rest = elim (head_or (entry_of ρ c) e (table_of functions ρ n cs) has) [
        | inl same ↦ (let a = and_parts (is_some (slice_get functions c.call.callee.0)) _ is in
            let b = and_parts (nat_le n c.call.wait) _ a.1 in
            let r = and_parts (bit (ρ c.call.reach)) (bit (ρ c.has)) b.1 in
            (c, record { there = at_head c cs; function = a.0; reach = r.0; has = r.1; is = same }))
        | inr more ↦ rest more
      ]
      by false is has rest = rest has
