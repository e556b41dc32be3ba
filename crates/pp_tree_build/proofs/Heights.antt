-- Heights of nodes above lists, from the greatest heights of these.
use Rattle.std.proofs.Common.{◌≡◌, ℕ, ◌+◌, min, max, map, arith, List, [], ◌∷◌, refl, ap, sym, ◌∙◌, Option, Some, None}
use Rattle.std.proofs.Common.{option_map, subst}
use Rattle.pp_tree.specs.declared.expr.Case.{Case}
use Rattle.pp_tree.specs.declared.expr.Expr.{Expr}
use Rattle.pp_tree.specs.declared.expr.ExprKind.TheViews.{roll-Case, out-Case, roll-out-Case}
use Rattle.pp_tree.specs.declared.pattern.Pattern.{Pattern}
use Rattle.pp_tree.specs.declared.type_text.TypeText.{TypeText}
use Rattle.pp_tree.specs.Height.{highest, height, heights, type_height, type_heights, pattern_height, pattern_heights}
use Rattle.pp_tree.specs.Height.{case_heights}
use Rattle.pp_tree.specs.Plain.{Word, Tree, apply, choice, matching, PatternTree, ctor_pattern, TypeTree, type_text}
use Rattle.pp_tree.specs.Plain.{CaseTrees}
use Rattle.pp_tree.specs.Plain.{no_cases}
use Rattle.pp_tree.specs.Shown.{tree_of, trees, case_of, case_trees, case_before, type_of, type_trees, pattern_of}
use Rattle.pp_tree.specs.Shown.{pattern_trees}
use Rattle.pp_tree_build.proofs.Folded.{case_is}

pub map_map : {A B C : Type 0} (f : B → C) (g : A → B) (xs : List A) (ys : List B) → ys ≡ map g xs
    → map f ys ≡ map (λ x. f (g x)) xs
map_map f g [] ys e = ap (map f) e
map_map f g (x ∷ xs) ys e = ap (map f) e ∙ ap (λ zs. f (g x) ∷ zs) (map_map f g xs (map g xs) refl)

types_highest : (ts : List TypeText) → type_heights (type_trees (map type_of ts)) ≡ highest (λ t. type_height
    (type_of t)) ts
types_highest [] = refl
types_highest (t ∷ ts) = ap (max (type_height (type_of t))) (types_highest ts)

exprs_highest : (es : List Expr) → heights (trees (map tree_of es)) ≡ highest (λ e. height (tree_of e)) es
exprs_highest [] = refl
exprs_highest (e ∷ es) = ap (max (height (tree_of e))) (exprs_highest es)

patterns_highest : (ps : List Pattern) → pattern_heights (pattern_trees (map pattern_of ps)) ≡ highest (λ p.
    pattern_height (pattern_of p)) ps
patterns_highest [] = refl
patterns_highest (p ∷ ps) = ap (max (pattern_height (pattern_of p))) (patterns_highest ps)

pub type_levels : (t : TypeTree) (at : ℕ) (w : Word) (ts us : List TypeText) (a l : ℕ)
    → t ≡ type_text at w (type_trees (map type_of ts)) → ts ≡ us → a ≡ min (highest (λ u. type_height (type_of u))
    us) 65 → l ≡ min (a + 1) 65 → l ≡ min (type_height t) 65
type_levels t at w ts us a l is same one above =
    let e : type_height t ≡ highest (λ u. type_height (type_of u)) us + 1 = ap type_height is
    ∙ ap (λ n. n + 1) (types_highest ts ∙ ap (highest (λ u. type_height (type_of u))) same) in
    omega arith

pub ctor_levels : (p : PatternTree) (at : ℕ) (n : Option Word) (c : Word) (ps qs : List Pattern) (a l : ℕ)
    → p ≡ ctor_pattern at n c (pattern_trees (map pattern_of ps)) → ps ≡ qs
    → a ≡ min (highest (λ q. pattern_height (pattern_of q)) qs) 65 → l ≡ min (a + 1) 65
    → l ≡ min (pattern_height p) 65
ctor_levels p at n c ps qs a l is same one above =
    let e : pattern_height p ≡ highest (λ q. pattern_height (pattern_of q)) qs + 1 = ap pattern_height is
    ∙ ap (λ n. n + 1) (patterns_highest ps ∙ ap (highest (λ q. pattern_height (pattern_of q))) same) in
    omega arith

pub apply_levels : (t : Tree) (at : ℕ) (w : Word) (ts us : List TypeText) (es fs : List Expr) (a b m l : ℕ)
    → t ≡ apply at w (type_trees (map type_of ts)) (trees (map tree_of es)) → ts ≡ us → es ≡ fs
    → a ≡ min (highest (λ u. type_height (type_of u)) us) 65 → b ≡ min (highest (λ f. height (tree_of f)) fs) 65
    → m ≡ max a b → l ≡ min (m + 1) 65 → l ≡ min (height t) 65
apply_levels t at w ts us es fs a b m l is same_types same_args one other both above =
    let x = types_highest ts ∙ ap (highest (λ u. type_height (type_of u))) same_types in
    let y = exprs_highest es ∙ ap (highest (λ f. height (tree_of f))) same_args in
    let e : height t ≡ max (type_heights (type_trees (map type_of ts))) (heights (trees (map tree_of es))) + 1 = ap
    height is in
    omega arith

-- a case with others behind it
before_height : (p : PatternTree) (g : Option Tree) (b : Tree) (cs : CaseTrees)
    → case_heights (case_before p g b cs) ≡ max (case_heights (case_before p g b no_cases)) (case_heights cs)
before_height p None b cs = omega arith
before_height p (Some g) b cs = omega arith

rolled_height : (p : Pattern) (g : Option Expr) (b : Expr) (cs : CaseTrees)
    → case_heights (case_of (roll-Case (record { pattern = p; guard = g; body = b })) cs) ≡ max (case_heights
    (case_of (roll-Case (record { pattern = p; guard = g; body = b })) no_cases)) (case_heights cs)
rolled_height p g b cs =
    let e = case_is p g b in
    ap (λ (f : CaseTrees → CaseTrees). case_heights (f cs)) e ∙ before_height (pattern_of p) (option_map tree_of g)
    (tree_of b) cs
    ∙ ap (λ (f : CaseTrees → CaseTrees). max (case_heights (f no_cases)) (case_heights cs)) (sym e)

case_height : (c : Case) (cs : CaseTrees) → case_heights (case_of c cs) ≡ max (case_heights (case_of c no_cases))
    (case_heights cs)
case_height c cs =
    let P : Case → Type 0 = λ d. case_heights (case_of d cs) ≡ max (case_heights (case_of d no_cases))
    (case_heights cs) in
    subst P (roll-out-Case c) (rolled_height (out-Case c).pattern (out-Case c).guard (out-Case c).body cs)

cases_highest : (cs : List Case) → case_heights (case_trees (map case_of cs)) ≡ highest (λ c. case_heights (case_of
    c no_cases)) cs
cases_highest [] = refl
cases_highest (c ∷ cs) = case_height c (case_trees (map case_of cs)) ∙ ap (max (case_heights (case_of c no_cases)))
    (cases_highest cs)

pub matching_levels : (t : Tree) (at : ℕ) (e : Tree) (cs ds : List Case) (a b m l : ℕ)
    → t ≡ matching at e (case_trees (map case_of cs)) → cs ≡ ds → a ≡ min (height e) 65
    → b ≡ min (highest (λ d. case_heights (case_of d no_cases)) ds) 65 → m ≡ max a b → l ≡ min (m + 1) 65
    → l ≡ min (height t) 65
matching_levels t at e cs ds a b m l is same one other both above =
    let x = cases_highest cs ∙ ap (highest (λ d. case_heights (case_of d no_cases))) same in
    let h : height t ≡ max (height e) (case_heights (case_trees (map case_of cs))) + 1 = ap height is in
    omega arith

-- a type that may be missing, alone
pub alone_type : {B : Type 0} (f : B → TypeText) (o : Option B) → option_map type_of (option_map f o) ≡ option_map
    (λ b. type_of (f b)) o
alone_type f None = refl
alone_type f (Some b) = refl

pub choice_levels : (t c a b : Tree) (at x y z m n l : ℕ) → t ≡ choice at c a b → x ≡ min (height c) 65
    → y ≡ min (height a) 65 → z ≡ min (height b) 65 → m ≡ max y z → n ≡ max x m → l ≡ min (n + 1) 65
    → l ≡ min (height t) 65
choice_levels t c a b at x y z m n l is of_test of_yes of_no both all above =
    let e : height t ≡ max (height c) (max (height a) (height b)) + 1 = ap height is in
    omega arith
