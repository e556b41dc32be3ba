-- An expression is told by its form without numbers and its slots: the form, filled with the slots in order, is it.
use Rattle.std.proofs.Common.{◌≡◌, List, [], ◌∷◌, ◌++◌, map, Option, Some, None, refl, sym, ap, ◌∙◌}
use Rattle.std.proofs.Common.{append_assoc}
use Rattle.pp_list.proofs.With.{With, elements}
use Rattle.pp_prog.proofs.Induction.{case_under, each_expr, under}
use Rattle.pp_list.specs.Joined.{joined}
use Rattle.pp_prog.specs.declared.expr.Case.{Case}
use Rattle.pp_prog.specs.declared.expr.Expr.{Expr}
use Rattle.pp_prog.specs.declared.expr.Expr.TheFolds.{fold-Case, fold-Expr, fold-roll-Case, fold-roll-Expr}
use Rattle.pp_prog.specs.declared.expr.Expr.TheFolds.{map-Case, map-Expr}
use Rattle.pp_prog.specs.declared.expr.Expr.TheOpen as layer
use Rattle.pp_prog.specs.declared.expr.Expr.TheVariants as prog
use Rattle.pp_prog.specs.declared.expr.Expr.TheViews.{roll-Case, roll-Expr}
use Rattle.pp_prog.specs.declared.expr.Pattern.{Pattern}
use Rattle.pp_prog.specs.declared.id.CheckId.{CheckId}
use Rattle.pp_translation.specs.Bare.{bare, bare_case, bare_of_case, bare_step}
use Rattle.pp_translation.specs.Exprs.{unnumbered}
use Rattle.pp_mono_laws.proofs.Slots.{Slots, case_slots, case_step, slot_step, slots}

-- what is made from slots, and the slots that are left
abbrev pub Made : Type 0 → Type 0
Made A = A × Slots

abbrev pub Fill : Type 0
Fill = Slots → Made Expr

abbrev FillCase : Type 0
FillCase = Slots → Made Case

abbrev pub then : {A B : Type 0} → Made A → (A → Slots → Made B) → Made B
then made go = go made.0 made.1

abbrev pub first : Slots → Option CheckId
first [] = None
first (slot ∷ rest) = slot

abbrev pub behind : Slots → Slots
behind [] = []
behind (slot ∷ rest) = rest

abbrev pub or_unnumbered : Option CheckId → CheckId
or_unnumbered None = unnumbered
or_unnumbered (Some check) = check

abbrev pub fill_each : {A : Type 0} → List (Slots → Made A) → Slots → Made (List A)
fill_each [] cs = ([], cs)
fill_each (fill ∷ fills) cs = then (fill cs) (λ x ds. then (fill_each fills ds) (λ xs es. (x ∷ xs, es)))

abbrev pub fill_guard : Option Fill → Slots → Made (Option Expr)
fill_guard None cs = (None, cs)
fill_guard (Some fill) cs = then (fill cs) (λ x ds. (Some x, ds))

-- one level, with the fills of the parts in their place
abbrev fill_step : layer.Expr-F Fill FillCase → Fill
fill_step (layer.Int n) cs = (roll-Expr (layer.Int n), cs)
fill_step (layer.Bool b) cs = (roll-Expr (layer.Bool b), cs)
fill_step (layer.Var i) cs = (roll-Expr (layer.Var i), cs)
fill_step (layer.Unary op a) cs = then (a cs) (λ x ds. (roll-Expr (layer.Unary op x), ds))
fill_step (layer.Binary op a b check) cs =
    then (a cs) (λ x ds. then (b ds) (λ y es. (roll-Expr (layer.Binary op x y (first es)), behind es)))
fill_step (layer.Construct c args) cs = then (fill_each args cs) (λ xs ds. (roll-Expr (layer.Construct c xs), ds))
fill_step (layer.Field e k) cs = then (e cs) (λ x ds. (roll-Expr (layer.Field x k), ds))
fill_step (layer.If c a b) cs =
    then (c cs) (λ x ds. then (a ds) (λ y es. then (b es) (λ z gs. (roll-Expr (layer.If x y z), gs))))
fill_step (layer.Match e cases check) cs =
    then (e cs) (λ x ds. then (fill_each cases (behind ds)) (λ ys es. (roll-Expr (layer.Match x ys (first ds)), es)))
fill_step (layer.Val bound rest) cs =
    then (bound cs) (λ x ds. then (rest ds) (λ y es. (roll-Expr (layer.Val x y), es)))
fill_step (layer.Assert check c rest) cs =
    then (c cs)
    (λ x ds. then (rest (behind ds)) (λ y es. (roll-Expr (layer.Assert (or_unnumbered (first ds)) x y), es)))
fill_step (layer.Call g args pre down) cs =
    then (fill_each args cs)
    (λ xs ds. (roll-Expr (layer.Call g xs (first ds) (first (behind ds))), behind (behind ds)))

abbrev fill_case : layer.Case-F Fill FillCase → FillCase
fill_case c cs =
    then (fill_guard c.guard cs)
    (λ g ds. then (c.body ds) (λ x es. (roll-Case (record { pattern = c.pattern; guard = g; body = x }), es)))

abbrev pub fill : Expr → Fill
fill = fold-Expr Fill FillCase fill_step fill_case

abbrev fill_in_case : Case → FillCase
fill_in_case = fold-Case Fill FillCase fill_step fill_case

-- what is made is known, and so is what follows
pub made_then : {A B : Type 0} (go : A → Slots → Made B) {m : Made A} {x : A} {cs : Slots} → m ≡ (x, cs)
    → then m go ≡ go x cs
made_then go is = ap (λ m. then m go) is

abbrev P : Expr → Type 0
P e = (rest : Slots) → fill (bare e) (slots e ++ rest) ≡ (e, rest)

abbrev Q : Case → Type 0
Q c = (rest : Slots) → fill_in_case (bare_of_case c) (case_slots c ++ rest) ≡ (c, rest)

exprs_filled : (ys : List (With P)) (rest : Slots)
    → fill_each (map fill (map bare (elements ys))) (joined (map slots (elements ys)) ++ rest)
    ≡ (elements ys, rest)
exprs_filled [] rest = refl
exprs_filled (y ∷ ys) rest =
    let more = joined (map slots (elements ys)) in
    let fills = map fill (map bare (elements ys)) in
    let go : Expr → Slots → Made (List Expr) = λ x ds. then (fill_each fills ds) (λ xs es. (x ∷ xs, es)) in
    ap (λ l. then (fill (bare y.0) l) go) (append_assoc (slots y.0) more rest)
    ∙ made_then go (y.1 (more ++ rest)) ∙ made_then (λ xs es. (y.0 ∷ xs, es)) (exprs_filled ys rest)

each_case : (ys : List (With Q)) (rest : Slots)
    → fill_each (map fill_in_case (map bare_of_case (elements ys)))
    (joined (map case_slots (elements ys)) ++ rest)
    ≡ (elements ys, rest)
each_case [] rest = refl
each_case (y ∷ ys) rest =
    let more = joined (map case_slots (elements ys)) in
    let fills = map fill_in_case (map bare_of_case (elements ys)) in
    let go : Case → Slots → Made (List Case) = λ x ds. then (fill_each fills ds) (λ xs es. (x ∷ xs, es)) in
    ap (λ l. then (fill_in_case (bare_of_case y.0) l) go) (append_assoc (case_slots y.0) more rest)
    ∙ made_then go (y.1 (more ++ rest)) ∙ made_then (λ xs es. (y.0 ∷ xs, es)) (each_case ys rest)

opened : (y : layer.Expr-F Expr Case) (e : Expr) (cs : Slots) → roll-Expr y ≡ e
    → fill e cs ≡ fill_step (map-Expr Expr Case Fill FillCase fill fill_in_case y) cs
opened y e cs is =
    ap (λ z. fill z cs) (sym is) ∙ ap (λ (f : Fill). f cs) (fold-roll-Expr Fill FillCase fill_step fill_case y)

-- three parts and a rest
three : (a b c d : Slots) → (a ++ b ++ c) ++ d ≡ a ++ (b ++ (c ++ d))
three a b c d = append_assoc (a ++ b) c d ∙ append_assoc a b (c ++ d)

level : (y : layer.Expr-F (With P) (With Q)) (rest : Slots)
    → fill (bare_step (map-Expr Expr Case Expr Case bare bare_of_case (under y)))
    (slot_step (map-Expr Expr Case Slots Slots slots case_slots (under y)) ++ rest)
    ≡ (roll-Expr (under y), rest)
level (layer.Int n) rest = opened (layer.Int n) _ _ (prog.rolls-Int n)
level (layer.Bool b) rest = opened (layer.Bool b) _ _ (prog.rolls-Bool b)
level (layer.Var i) rest = opened (layer.Var i) _ _ (prog.rolls-Var i)
level (layer.Unary op a) rest =
    opened (layer.Unary op (bare a.0)) _ _ (prog.rolls-Unary op (bare a.0))
    ∙ made_then (λ x ds. (roll-Expr (layer.Unary op x), ds)) (a.1 rest)
level (layer.Binary op a b check) rest =
    let here = layer.Binary op (bare a.0) (bare b.0) None in
    let go : Expr → Expr → Slots → Made Expr = λ x y es. (roll-Expr (layer.Binary op x y (first es)), behind es) in
    let from : Expr → Slots → Made Expr = λ x ds. then (fill (bare b.0) ds) (go x) in
    opened here _ _ (prog.rolls-Binary op (bare a.0) (bare b.0) None)
    ∙ ap (λ l. then (fill (bare a.0) l) from) (three (slots a.0) (slots b.0) (check ∷ []) rest)
    ∙ made_then from (a.1 _) ∙ made_then (go a.0) (b.1 _)
level (layer.Construct c args) rest =
    let es = map bare (elements args) in
    opened (layer.Construct c es) _ _ (prog.rolls-Construct c es)
    ∙ made_then (λ xs ds. (roll-Expr (layer.Construct c xs), ds)) (exprs_filled args rest)
level (layer.Field e k) rest =
    opened (layer.Field (bare e.0) k) _ _ (prog.rolls-Field (bare e.0) k)
    ∙ made_then (λ x ds. (roll-Expr (layer.Field x k), ds)) (e.1 rest)
level (layer.If c a b) rest =
    let here = layer.If (bare c.0) (bare a.0) (bare b.0) in
    let go : Expr → Expr → Expr → Slots → Made Expr = λ x y z gs. (roll-Expr (layer.If x y z), gs) in
    let last : Expr → Expr → Slots → Made Expr = λ x y es. then (fill (bare b.0) es) (go x y) in
    let from : Expr → Slots → Made Expr = λ x ds. then (fill (bare a.0) ds) (last x) in
    opened here _ _ (prog.rolls-If (bare c.0) (bare a.0) (bare b.0))
    ∙ ap (λ l. then (fill (bare c.0) l) from) (three (slots c.0) (slots a.0) (slots b.0) rest)
    ∙ made_then from (c.1 _) ∙ made_then (last c.0) (a.1 _) ∙ made_then (go c.0 a.0) (b.1 _)
level (layer.Match e cases check) rest =
    let cs = map bare_of_case (elements cases) in
    let here = layer.Match (bare e.0) cs None in
    let more = joined (map case_slots (elements cases)) in
    let go : Expr → Slots → List Case → Slots → Made Expr =
    λ x ds ys es. (roll-Expr (layer.Match x ys (first ds)), es) in
    let from : Expr → Slots → Made Expr = λ x ds. then (fill_each (map fill_in_case cs) (behind ds)) (go x ds) in
    opened here _ _ (prog.rolls-Match (bare e.0) cs None)
    ∙ ap (λ l. then (fill (bare e.0) l) from) (append_assoc (slots e.0) (check ∷ more) rest)
    ∙ made_then from (e.1 _) ∙ made_then (go e.0 (check ∷ (more ++ rest))) (each_case cases rest)
level (layer.Val a b) rest =
    let here = layer.Val (bare a.0) (bare b.0) in
    let go : Expr → Expr → Slots → Made Expr = λ x y es. (roll-Expr (layer.Val x y), es) in
    let from : Expr → Slots → Made Expr = λ x ds. then (fill (bare b.0) ds) (go x) in
    opened here _ _ (prog.rolls-Val (bare a.0) (bare b.0))
    ∙ ap (λ l. then (fill (bare a.0) l) from) (append_assoc (slots a.0) (slots b.0) rest)
    ∙ made_then from (a.1 _) ∙ made_then (go a.0) (b.1 _)
level (layer.Assert check c e) rest =
    let here = layer.Assert unnumbered (bare c.0) (bare e.0) in
    let go : Expr → Slots → Expr → Slots → Made Expr =
    λ x ds y es. (roll-Expr (layer.Assert (or_unnumbered (first ds)) x y), es) in
    let from : Expr → Slots → Made Expr = λ x ds. then (fill (bare e.0) (behind ds)) (go x ds) in
    opened here _ _ (prog.rolls-Assert unnumbered (bare c.0) (bare e.0))
    ∙ ap (λ l. then (fill (bare c.0) l) from) (append_assoc (slots c.0) (Some check ∷ slots e.0) rest)
    ∙ made_then from (c.1 _) ∙ made_then (go c.0 (Some check ∷ (slots e.0 ++ rest))) (e.1 rest)
level (layer.Call g args pre down) rest =
    let es = map bare (elements args) in
    let more = joined (map slots (elements args)) in
    let go : List Expr → Slots → Made Expr =
    λ xs ds. (roll-Expr (layer.Call g xs (first ds) (first (behind ds))), behind (behind ds)) in
    opened (layer.Call g es None None) _ _ (prog.rolls-Call g es None None)
    ∙ ap (λ l. then (fill_each (map fill es) l) go) (append_assoc more (pre ∷ down ∷ []) rest)
    ∙ made_then go (exprs_filled args _)

at_level : (y : layer.Expr-F (With P) (With Q)) → P (roll-Expr (under y))
at_level y rest =
    let z = under y in
    ap (λ e. fill e (slots (roll-Expr z) ++ rest)) (fold-roll-Expr Expr Case bare_step bare_case z)
    ∙ ap (λ l. fill (bare_step (map-Expr Expr Case Expr Case bare bare_of_case z)) (l ++ rest))
    (fold-roll-Expr Slots Slots slot_step case_step z)
    ∙ level y rest

at_parts : (p : Pattern) (o : Option (With P)) (b : With P) (rest : Slots)
    → let y : layer.Case-F (With P) (With Q) = record { pattern = p; guard = o; body = b } in
    fill_in_case (bare_case (map-Case Expr Case Expr Case bare bare_of_case (case_under Q y)))
    (case_step (map-Case Expr Case Slots Slots slots case_slots (case_under Q y)) ++ rest)
    ≡ (roll-Case (case_under Q y), rest)
at_parts p None b rest =
    ap (λ (f : FillCase). f (slots b.0 ++ rest))
    (fold-roll-Case Fill FillCase fill_step fill_case (record { pattern = p; guard = None; body = bare b.0 }))
    ∙ made_then (λ x es. (roll-Case (record { pattern = p; guard = None; body = x }), es)) (b.1 rest)
at_parts p (Some g) b rest =
    let go : Expr → Expr → Slots → Made Case =
    λ x y es. (roll-Case (record { pattern = p; guard = Some x; body = y }), es) in
    let from : Expr → Slots → Made Case = λ x ds. then (fill (bare b.0) ds) (go x) in
    ap (λ (f : FillCase). f ((slots g.0 ++ slots b.0) ++ rest))
    (fold-roll-Case Fill FillCase fill_step fill_case
    (record { pattern = p; guard = Some (bare g.0); body = bare b.0 }))
    ∙ ap (λ l. then (fill (bare g.0) l) from) (append_assoc (slots g.0) (slots b.0) rest)
    ∙ made_then from (g.1 _) ∙ made_then (go g.0) (b.1 rest)

at_case : (y : layer.Case-F (With P) (With Q)) → Q (roll-Case (case_under Q y))
at_case y rest =
    let z = case_under Q y in
    ap (λ c. fill_in_case c (case_slots (roll-Case z) ++ rest)) (fold-roll-Case Expr Case bare_step bare_case z)
    ∙ ap (λ l. fill_in_case (bare_case (map-Case Expr Case Expr Case bare bare_of_case z)) (l ++ rest))
    (fold-roll-Case Slots Slots slot_step case_step z)
    ∙ at_parts y.pattern y.guard y.body rest

-- the form without numbers, filled with the slots of the expression, is the expression
pub refilled : (e : Expr) → P e
refilled = each_expr P Q at_level at_case
