-- Tables of answers.
use Rattle.std.proofs.Common.{◌≡◌, ℕ, zero, suc, nat_eq, Bool, true, false, List, [], ◌∷◌, map, Some, refl, sym, ap}
use Rattle.std.proofs.Common.{◌∙◌, arith, Contains, eqb-true, eq-eqb}
use Rattle.std.specs.Prelude.{if◌then◌else◌}
use Rattle.std.proofs.lemmas.Bool.{and_from, and_parts}
use Rattle.pp_prog.specs.declared.id.FunctionId.{FunctionId}
use Rattle.pp_prog.specs.declared.value.Value.{Value}
use Rattle.pp_eval.specs.Equality.{equal, pass_all}
use Rattle.pp_eval.proofs.Trees.{equal_same, equal_self}
use Rattle.pp_guess_runs.specs.Answers.{Entry, answer_in, is_of}
use Rattle.pp_guess_runs.specs.Laws.{TablesAnswerOnce}

pub lists_same : (xs ys : List Value) → pass_all (map equal xs) ys ≡ true → xs ≡ ys
lists_same [] [] h = refl
lists_same [] (y ∷ ys) h = cc
lists_same (x ∷ xs) [] h = cc
lists_same (x ∷ xs) (y ∷ ys) h =
    let p = and_parts (equal x y) (pass_all (map equal xs) ys) h in
    ap (λ z. z ∷ xs) (equal_same x y p.0) ∙ ap (λ zs. y ∷ zs) (lists_same xs ys p.1)

pub list_self : (xs : List Value) → pass_all (map equal xs) xs ≡ true
list_self [] = refl
list_self (x ∷ xs) = and_from (equal x x) (pass_all (map equal xs) xs) (equal_self x) (list_self xs)

same_call : (e : Entry) (g : FunctionId) (args : List Value) → is_of e g args ≡ true
    → (e.function ≡ g) × (e.args ≡ args)
same_call e g args h =
    let p = and_parts (nat_eq e.function.0 g.0) (pass_all (map equal e.args) args) h in
    let mk : ℕ → FunctionId = λ n. record { 0 = n } in (
      ap mk (eqb-true e.function.0 g.0 p.0),
      lists_same e.args args
          p.1,
    )

is_of_itself : (e : Entry) → is_of e e.function e.args ≡ true
is_of_itself e =
    and_from (nat_eq e.function.0 e.function.0) _ (eq-eqb e.function.0 e.function.0 refl) (list_self e.args)

in_tail : (d e : Entry) (es : List Entry) → Contains es e → Contains (d ∷ es) e
in_tail d e es c = (suc c.0, omega (arith, c.1), c.2)

at_head : (e : Entry) (es : List Entry) → Contains (e ∷ es) e
at_head e es = (0, omega arith, refl)

only : (es : List Entry) (g : FunctionId) (args : List Value) (v : Value) → answer_in es g args ≡ Some v
    → (e : Entry) × Contains es e × (e.function ≡ g) × (e.args ≡ args) × (e.answer ≡ v)
only [] g args v h = cc
only (d ∷ es) g args v h = by (is_of d g args) refl h (only es g args v)
  where
    Found : List Entry → Type 0
    Found l = (e : Entry) × Contains l e × (e.function ≡ g) × (e.args ≡ args) × (e.answer ≡ v)

    by : (t : Bool) → is_of d g args ≡ t → (if t then Some d.answer else answer_in es g args) ≡ Some v
        → (answer_in es g args ≡ Some v → Found es) → Found (d ∷ es)
    by true is e more = let same = same_call d g args is in (d, at_head d es, same.0, same.1, cc)
    by false is e more = let f = more e in (f.0, in_tail d f.0 es f.1, f.2, f.3, f.4)

-- some entry is of the call, so there is an answer
some_answer : (es : List Entry) (e : Entry) → Contains es e → (v : Value) × (answer_in es e.function e.args ≡ Some v)
some_answer [] e has = absurd (omega (arith, has.1))
some_answer (d ∷ es) e has = by (is_of d e.function e.args) refl (some_answer es e)
  where
    left : is_of d e.function e.args ≡ false → Contains es e
    left no_match = from has
      where
        from : Contains (d ∷ es) e → Contains es e
        from (zero, lt, is) =
            let no : true ≡ false = sym (ap (λ (x : Entry). is_of x e.function e.args) is ∙ is_of_itself e) ∙ no_match
            in cc
        from (suc k, lt, is) = (k, omega (arith, lt), is)

    by : (t : Bool) → is_of d e.function e.args ≡ t
        → (Contains es e → (v : Value) × (answer_in es e.function e.args ≡ Some v))
        → (v : Value) × (answer_in (d ∷ es) e.function e.args ≡ Some v)
    by true is again = (d.answer, ap (λ t. if t then Some d.answer else answer_in es e.function e.args) is)
    by false is again =
        let more = again (left is) in
        (more.0, ap (λ t. if t then Some d.answer else answer_in es e.function e.args) is ∙ more.1)

pub tables_answer_once : TablesAnswerOnce
tables_answer_once = record {
  answered = λ p es is e has.
      let v = some_answer es e has in
      let f = only es e.function e.args v.0 v.1 in
      v.1 ∙ ap Some (sym f.4 ∙ is.once f.0 e f.1 has f.2 f.3);
  only = only;
}
