-- What patterns bind, one after another, and the first case of a match.
use Rattle.std.proofs.Common.{◌≡◌, ◌<◌, ◌+◌, ℕ, zero, suc, List, [], ◌∷◌, ◌++◌, map, drop, length, get_or, Option, Some}
use Rattle.std.proofs.Common.{None, slice_get, refl, sym, ap, ◌∙◌, append_assoc, add-one, drop-cons}
use Rattle.std.proofs.lemmas.List.{append-nil}
use Rattle.pp_prog.specs.declared.expr.Case.{Case}
use Rattle.pp_prog.specs.declared.expr.Expr.{Expr}
use Rattle.pp_prog.specs.declared.expr.Expr.TheFolds.{fold_out-Case, map-Case}
use Rattle.pp_prog.specs.declared.expr.Function.{Function}
use Rattle.pp_prog.specs.declared.expr.Pattern.{Pattern}
use Rattle.pp_prog.specs.declared.sort.Sort.{Sort}
use Rattle.pp_prog.specs.declared.types.TypeTable.{TypeTable}
use Rattle.pp_prog.specs.Results.{Binds, Body, Result, bind_each, binds, body, body_step, first_result, result_of}
use Rattle.pp_prog.specs.Results.{result_step}

bind_none : (bs : List Binds) → bind_each bs [] ≡ []
bind_none [] = refl
bind_none (b ∷ bs) = refl

bind_first : (b : Binds) (bs : List Binds) (ss : List Sort) → bind_each (b ∷ bs) ss ≡ bind_each (b ∷ []) ss ++
    bind_each bs (drop 1 ss)
bind_first b bs [] = sym (bind_none bs)
bind_first b bs (s ∷ ss) = ap (λ (l : List Sort). l ++ bind_each bs ss) (sym (append-nil (b s)))

-- what is left but for one
pub drop_one : (i : ℕ) (ss : List Sort) → drop 1 (drop i ss) ≡ drop (suc i) ss
drop_one zero ss = refl
drop_one (suc i) [] = refl
drop_one (suc i) (s ∷ ss) = drop_one i ss

-- one pattern more
pub bind_more : (f : Pattern → Binds) (ps : List Pattern) (ss : List Sort) (i : ℕ) (p : Pattern) (start scope next
    : List Sort) → i < length ps → p ≡ get_or ps i p → start ++ bind_each (map f ps) ss ≡ scope ++ bind_each (map f
    (drop i ps)) (drop i ss) → next ≡ scope ++ bind_each (f p ∷ []) (drop i ss)
    → start ++ bind_each (map f ps) ss ≡ next ++ bind_each (map f (drop (i + 1) ps)) (drop (i + 1) ss)
bind_more f ps ss i p start scope next lt is inv step =
    let now = drop-cons ps i p lt ∙ ap (λ (q : Pattern). q ∷ drop (suc i) ps) (sym is) in
    let later = ap (λ (l : List Pattern). scope ++ bind_each (map f l) (drop i ss)) now in
    let split = ap (λ (l : List Sort). scope ++ l) (bind_first (f p) (map f (drop (suc i) ps)) (drop i ss)) in
    let over = ap (λ (l : List Sort). scope ++ (bind_each (f p ∷ []) (drop i ss) ++ bind_each (map f (drop (suc i)
    ps)) l)) (drop_one i ss) in
    rw add-one (inv ∙ later ∙ split ∙ over ∙ sym (append_assoc scope (bind_each (f p ∷ []) (drop i ss)) (bind_each
    (map f (drop (suc i) ps)) (drop (suc i) ss))) ∙ ap (λ (l : List Sort). l ++ bind_each (map f (drop (suc i)
    ps)) (drop (suc i) ss)) (sym step))

module _ (types : TypeTable) (functions : List Function) where
  body_is : (p : Pattern) (g : Option Expr) (e : Expr) → body_step (map-Case Expr Case Result Body (result_of types
      functions) (body types functions) (record { pattern = p; guard = g; body = e })) ≡ (
        p,
        result_of types
            functions e,
      )
  body_is p None e = refl
  body_is p (Some g) e = refl

  pub body_of_case : (c : Case) → body types functions c ≡ (c.pattern, result_of types functions c.body)
  body_of_case c =
      fold_out-Case Result Body (result_step types functions) body_step c ∙ body_is c.pattern c.guard c.body

  pub first_case : (cases : List Case) (c : Case) (s : Sort) (scope : List Sort) → slice_get cases 0 ≡ Some c
      → first_result types functions (map (body types functions) cases) s scope ≡ result_of types functions c.body
      (scope ++ binds types.ctors c.pattern s)
  first_case [] c s scope is = let no : None ≡ Some c = is in cc
  first_case (d ∷ cases) c s scope is =
      let same : d ≡ c = (let both : Some d ≡ Some c = is in cc) in
      ap (λ (b : Body). b.1 (scope ++ binds types.ctors b.0 s)) (ap (body types functions) same ∙ body_of_case c)

-- behind the end nothing is left
pub past_end : (ss : List Sort) (i : ℕ) → slice_get ss i ≡ None → drop i ss ≡ []
past_end [] zero is = refl
past_end [] (suc i) is = refl
past_end (s ∷ ss) zero is = let no : Some s ≡ None = is in cc
past_end (s ∷ ss) (suc i) is = past_end ss i is

-- a pattern without a value
pub bind_past : (b : Binds) (scope ss : List Sort) (i : ℕ) → slice_get ss i ≡ None
    → scope ≡ scope ++ bind_each (b ∷ []) (drop i ss)
bind_past b scope ss i is =
    sym (append-nil scope) ∙ ap (λ (l : List Sort). scope ++ bind_each (b ∷ []) l) (sym (past_end ss i is))

-- a pattern with the value at its place
pub bind_here : (b : Binds) (ss : List Sort) (i : ℕ) (s : Sort) → slice_get ss i ≡ Some s
    → bind_each (b ∷ []) (drop i ss) ≡ b s
bind_here b [] i s is = let no : None ≡ Some s = is in cc
bind_here b (t ∷ ss) zero s is =
    let same : t ≡ s = (let both : Some t ≡ Some s = is in cc) in append-nil (b t) ∙ ap b same
bind_here b (t ∷ ss) (suc i) s is = bind_here b ss i s is
