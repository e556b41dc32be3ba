-- What a node that is put together from its parts stands for.
use Rattle.std.proofs.Common.{◌≡◌, ℕ, ℤ, Bool, List, map, Option, Some, None, option_map, Bor, ap, ◌∙◌}
use Rattle.pp_tree.specs.declared.expr.Case.{Case}
use Rattle.pp_tree.specs.declared.expr.Expr.{Expr}
use Rattle.pp_tree.specs.declared.expr.ExprKind.{ExprKind}
use Rattle.pp_tree.specs.declared.expr.ExprKind.TheViews as views
use Rattle.pp_tree.specs.declared.expr.ExprKind.TheVariants as variants
use Rattle.pp_tree.specs.declared.expr.ExprKind.TheOpen as layer
use Rattle.pp_tree.specs.declared.expr.ExprKind.TheFolds.{fold-roll-Expr, fold-roll-ExprKind, fold-ExprKind}
use Rattle.pp_tree.specs.declared.expr.ExprKind.TheFolds.{fold-roll-Case}
use Rattle.pp_tree.specs.declared.operator.BinaryOp.{BinaryOp}
use Rattle.pp_tree.specs.declared.operator.UnaryOp.{UnaryOp}
use Rattle.pp_tree.specs.declared.pattern.Pattern.{Pattern}
use Rattle.pp_tree.specs.declared.pattern.PatternKind.{PatternKind}
use Rattle.pp_tree.specs.declared.pattern.PatternKind.TheViews as pattern_views
use Rattle.pp_tree.specs.declared.pattern.PatternKind.TheOpen as pattern_layer
use Rattle.pp_tree.specs.declared.pattern.PatternKind.TheFolds.{fold-roll-Pattern, fold-roll-PatternKind}
use Rattle.pp_tree.specs.declared.pattern.PatternKind.TheFolds.{fold-PatternKind}
use Rattle.pp_tree.specs.declared.type_text.TypeText.{TypeText}
use Rattle.pp_tree.specs.declared.type_text.TypeText.TheViews as type_views
use Rattle.pp_tree.specs.declared.type_text.TypeText.TheFolds.{fold-roll-TypeText}
use Rattle.pp_tree.specs.Plain.{Word, Tree, CaseTrees, int, bool, name, apply, field, unary, binary, choice, matching}
use Rattle.pp_tree.specs.Plain.{val_in, assert_in, PatternTree, ctor_pattern, TypeTree}
use Rattle.pp_tree.specs.Plain.{type_text}
use Rattle.pp_tree.specs.Shown.{tree_of, trees, kind_step, case_step, expr_step, case_of, case_trees, case_before}
use Rattle.pp_tree.specs.Shown.{type_of, type_trees, type_step, pattern_of, pattern_trees, pattern_kind, pattern_step}

-- the tree of a kind, but for its place
abbrev kind_of : ExprKind → ℕ → Tree
kind_of = fold-ExprKind (ℕ → Tree) (CaseTrees → CaseTrees) Tree kind_step case_step expr_step

abbrev expr : ℕ → ExprKind → Tree
expr at k = tree_of (views.roll-Expr (record { at = at; kind = k }))

expr_is : (at : ℕ) (k : ExprKind) (t : ℕ → Tree) → kind_of k ≡ t → expr at k ≡ t at
expr_is at k t e =
    fold-roll-Expr (ℕ → Tree) (CaseTrees → CaseTrees) Tree kind_step case_step expr_step (record {
      at = at;
      kind =
          k;
    })
    ∙ ap (λ (f : ℕ → Tree). f at) e

pub int_is : (at : ℕ) (n : ℤ) → expr at (variants.Int n) ≡ int at n
unfolding views.roll-ExprKind denote.Hole.Carrier.roll
int_is at n = expr_is at (variants.Int n) (λ x. int x n) (fold-roll-ExprKind (ℕ → Tree) (CaseTrees
    → CaseTrees) Tree kind_step case_step expr_step (layer.Int n))

pub bool_is : (at : ℕ) (b : Bool) → expr at (variants.Bool b) ≡ bool at b
unfolding views.roll-ExprKind denote.Hole.Carrier.roll
bool_is at b = expr_is at (variants.Bool b) (λ x. bool x b) (fold-roll-ExprKind (ℕ → Tree) (CaseTrees
    → CaseTrees) Tree kind_step case_step expr_step (layer.Bool b))

pub name_is : (at : ℕ) (w : Bor Word) → expr at (variants.Name w) ≡ name at w.now
unfolding views.roll-ExprKind denote.Hole.Carrier.roll
name_is at w = expr_is at (variants.Name w) (λ x. name x w.now) (fold-roll-ExprKind (ℕ → Tree) (CaseTrees
    → CaseTrees) Tree kind_step case_step expr_step (layer.Name w))

pub apply_is : (at : ℕ) (w : Bor Word) (ts : Bor (List TypeText)) (es : Bor (List Expr))
    → expr at (views.Apply w ts es) ≡ apply at w.now (type_trees (map type_of ts.now)) (trees (map tree_of es.now))
unfolding views.roll-ExprKind denote.Hole.Carrier.roll
apply_is at w ts es = expr_is at (views.Apply w ts es) (λ x. apply x w.now (type_trees (map type_of ts.now)) (trees
    (map tree_of es.now))) (fold-roll-ExprKind (ℕ → Tree) (CaseTrees → CaseTrees) Tree kind_step case_step
    expr_step (layer.Apply w ts es))

pub field_is : (at : ℕ) (e : Bor Expr) (w : Bor Word) → expr at (views.Field e w) ≡ field at (tree_of e.now) w.now
unfolding views.roll-ExprKind denote.Hole.Carrier.roll
field_is at e w = expr_is at (views.Field e w) (λ x. field x (tree_of e.now) w.now) (fold-roll-ExprKind (ℕ
    → Tree) (CaseTrees → CaseTrees) Tree kind_step case_step expr_step (layer.Field e w))

pub unary_is : (at : ℕ) (op : UnaryOp) (a : Bor Expr) → expr at (views.Unary op a) ≡ unary at op (tree_of a.now)
unfolding views.roll-ExprKind denote.Hole.Carrier.roll
unary_is at op a = expr_is at (views.Unary op a) (λ x. unary x op (tree_of a.now)) (fold-roll-ExprKind (ℕ
    → Tree) (CaseTrees → CaseTrees) Tree kind_step case_step expr_step (layer.Unary op a))

pub binary_is : (at : ℕ) (op : BinaryOp) (a b : Bor Expr) → expr at (views.Binary op a b) ≡ binary at op (tree_of
    a.now) (tree_of b.now)
unfolding views.roll-ExprKind denote.Hole.Carrier.roll
binary_is at op a b = expr_is at (views.Binary op a b) (λ x. binary x op (tree_of a.now) (tree_of b.now))
    (fold-roll-ExprKind (ℕ → Tree) (CaseTrees → CaseTrees) Tree kind_step case_step expr_step (layer.Binary op a b))

pub choice_is : (at : ℕ) (c a b : Bor Expr) → expr at (views.If c a b) ≡ choice at (tree_of c.now) (tree_of a.now)
    (tree_of b.now)
unfolding views.roll-ExprKind denote.Hole.Carrier.roll
choice_is at c a b = expr_is at (views.If c a b) (λ x. choice x (tree_of c.now) (tree_of a.now) (tree_of b.now))
    (fold-roll-ExprKind (ℕ → Tree) (CaseTrees → CaseTrees) Tree kind_step case_step expr_step (layer.If c a b))

pub matching_is : (at : ℕ) (e : Bor Expr) (cs : Bor (List Case)) → expr at (views.Match e cs) ≡ matching at
    (tree_of e.now) (case_trees (map case_of cs.now))
unfolding views.roll-ExprKind denote.Hole.Carrier.roll
matching_is at e cs = expr_is at (views.Match e cs) (λ x. matching x (tree_of e.now) (case_trees (map case_of
    cs.now))) (fold-roll-ExprKind (ℕ → Tree) (CaseTrees → CaseTrees) Tree kind_step case_step expr_step
    (layer.Match e cs))

pub val_is : (at : ℕ) (w : Bor Word) (t : Option TypeText) (a b : Bor Expr)
    → expr at (views.Val w t a b) ≡ val_in at w.now (option_map type_of t) (tree_of a.now) (tree_of b.now)
unfolding views.roll-ExprKind denote.Hole.Carrier.roll
val_is at w t a b = expr_is at (views.Val w t a b) (λ x. val_in x w.now (option_map type_of t) (tree_of a.now)
    (tree_of b.now)) (fold-roll-ExprKind (ℕ → Tree) (CaseTrees → CaseTrees) Tree kind_step case_step expr_step
    (layer.Val w t a b))

pub assert_is : (at : ℕ) (c e : Bor Expr) → expr at (views.Assert c e) ≡ assert_in at (tree_of c.now) (tree_of e.now)
unfolding views.roll-ExprKind denote.Hole.Carrier.roll
assert_is at c e = expr_is at (views.Assert c e) (λ x. assert_in x (tree_of c.now) (tree_of e.now))
    (fold-roll-ExprKind (ℕ → Tree) (CaseTrees → CaseTrees) Tree kind_step case_step expr_step (layer.Assert c e))

pub case_is : (p : Pattern) (g : Option Expr) (b : Expr) → case_of (views.roll-Case (record {
  pattern = p;
  guard =
      g;
  body = b;
})) ≡ case_before (pattern_of p) (option_map tree_of g) (tree_of b)
case_is p None b = fold-roll-Case (ℕ → Tree) (CaseTrees → CaseTrees) Tree kind_step case_step expr_step (record {
  pattern = p;
  guard = None;
  body = b;
})
case_is p (Some g) b = fold-roll-Case (ℕ → Tree) (CaseTrees → CaseTrees) Tree kind_step case_step expr_step (record
    { pattern = p; guard = Some g; body = b })

pub type_is : (at : ℕ) (w : Bor Word) (ts : Bor (List TypeText)) → type_of (type_views.roll-TypeText (record {
  at =
      at;
  name = w;
  args = ts;
})) ≡ type_text at w.now (type_trees (map type_of ts.now))
type_is at w ts = fold-roll-TypeText TypeTree type_step (record { at = at; name = w; args = ts })

-- the pattern of a kind, but for its place and its name
abbrev pattern_kind_of : PatternKind → ℕ → Option Word → PatternTree
pattern_kind_of = fold-PatternKind (ℕ → Option Word → PatternTree) PatternTree pattern_kind pattern_step

pub ctor_is : (at : ℕ) (n : Option (Bor Word)) (c : Bor Word) (ps : Bor (List Pattern))
    → pattern_of (pattern_views.roll-Pattern (record { at = at; name = n; kind = pattern_views.Ctor c ps })) ≡
    ctor_pattern at (option_map (λ w. w.now) n) c.now (pattern_trees (map pattern_of ps.now))
unfolding pattern_views.roll-PatternKind denote.Hole.Carrier.roll
ctor_is at n c ps =
    fold-roll-Pattern (ℕ → Option Word → PatternTree) PatternTree pattern_kind pattern_step (record {
      at = at;
      name
          = n;
      kind = pattern_views.Ctor c ps;
    })
    ∙ ap (λ (f : ℕ → Option Word → PatternTree). f at (option_map (λ w. w.now) n)) (fold-roll-PatternKind (ℕ
    → Option Word → PatternTree) PatternTree pattern_kind pattern_step (pattern_layer.Ctor c ps))
