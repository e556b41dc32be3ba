-- Which expressions of a program, with the numbers of their checks, are typed expressions at the arguments of an
-- instance. Checks are listed in the order of their sites, and a site's check has its place in the list as its number.
-- Source: own.
use Rattle.std.specs.Prelude.{◌≡◌, ◌↔◌, ℕ, ℤ, nat_eq, Bool, true, false, not, ◌&&◌, List, [], ◌∷◌, ◌++◌, map, Option}
use Rattle.std.specs.Prelude.{Some, None, length, slice_get, IsTrue}
use Rattle.pp_list.specs.Joined.{joined}
use Rattle.pp_translation.specs.Numbers.{ctor_number, function_number, sort_at}
use Rattle.pp_instances.specs.declared.member.Member.{Member}
use Rattle.pp_prog.specs.Valid.{Covers}
use Rattle.pp_prog.specs.declared.check.CheckKind.{CheckKind}
use Rattle.pp_prog.specs.declared.check.CheckKind.TheVariants as check
use Rattle.pp_prog.specs.declared.expr.Case.{Case}
use Rattle.pp_prog.specs.declared.expr.Expr.{Expr}
use Rattle.pp_prog.specs.declared.expr.Expr.TheVariants as prog
use Rattle.pp_prog.specs.declared.expr.Pattern.{Pattern}
use Rattle.pp_prog.specs.declared.id.CheckId.{CheckId}
use Rattle.pp_prog.specs.declared.id.FunctionId.{FunctionId}
use Rattle.pp_operators.specs.Classes.{is_division}
use Rattle.pp_translation.specs.Patterns.{pattern_at}
use Rattle.pp_translation.specs.Setting.{Setting}
use Rattle.pp_translation.specs.declared.frame.CheckAt.{CheckAt}
use Rattle.pp_translation.specs.declared.frame.Frame.{Frame}
use Rattle.pp_tree.specs.declared.operator.BinaryOp.{BinaryOp}
use Rattle.pp_tree.specs.declared.operator.UnaryOp.{UnaryOp}
use Rattle.pp_typed.specs.Put.{put}
use Rattle.pp_typed.specs.declared.expr.TypedCase.{TypedCase}
use Rattle.pp_typed.specs.declared.expr.TypedExpr.{TypedExpr}
use Rattle.pp_typed.specs.declared.expr.TypedKind.TheVariants as kind
use Rattle.pp_typed.specs.declared.expr.TypedKind.TheViews.{out-TypedCase}
use Rattle.pp_typed.specs.declared.sort.GenericSort.{GenericSort}
use Rattle.pp_typed.specs.declared.typed.Typed.{Typed}
use Rattle.pp_typed.specs.declared.typed.TypedDef.{TypedDef}

-- one more check, where the test holds
abbrev pub more_if : Bool → CheckAt → List CheckAt → List CheckAt
more_if true c cs = cs ++ c ∷ []
more_if false c cs = cs

-- its number: how many there were
abbrev pub number_if : Bool → List CheckAt → Option CheckId
number_if true cs = Some (record { 0 = length cs })
number_if false cs = None

abbrev pub is_written : {A : Type 0} → List A → Bool
is_written [] = false
is_written (x ∷ xs) = true

-- whether a function has a precondition, and whether it has a measure
abbrev pub has_pre : Option TypedDef → Bool
has_pre None = false
has_pre (Some d) = is_written d.pre

abbrev pub has_measure : Option TypedDef → Bool
has_measure None = false
has_measure (Some d) = is_written d.measure

abbrev pub same_number : Option ℕ → Option ℕ → Bool
same_number None other = false
same_number (Some a) None = false
same_number (Some a) (Some b) = nat_eq a b

-- the patterns of the cases without a guard
abbrev pub unless_guarded : Option TypedExpr → Pattern → List Pattern
unless_guarded None p = p ∷ []
unless_guarded (Some guard) p = []

abbrev pub unguarded_case : Typed → List Member → GenericSort → TypedCase → List Pattern
unguarded_case typed roots s c =
    unless_guarded (out-TypedCase c).guard (pattern_at typed roots (out-TypedCase c).pattern s)

abbrev pub unguarded_at : Typed → List Member → GenericSort → List TypedCase → List Pattern
unguarded_at typed roots s cases = joined (map (unguarded_case typed roots s) cases)

module _ (typed : Typed) (set : Setting) (own : Frame) where
  -- a check of the instance at the offset of an expression
  abbrev pub check_at : CheckKind → TypedExpr → CheckAt
  check_at k e = record { function = own.number; kind = k; source = e.source; at = e.at }

  -- the called function
  abbrev pub callee : ℕ → List GenericSort → FunctionId
  callee f sorts = function_number set.functions f (map (put own.args) sorts)

  -- a call demands that the measure goes down where both functions have measures and are of one group
  abbrev pub descends : ℕ → FunctionId → Bool
  descends f g =
      own.measured && (has_measure (slice_get typed.defs f) && same_number (slice_get set.groups own.number)
      (slice_get set.groups g.0))

  abbrev pub after_pre : TypedExpr → ℕ → List CheckAt → List CheckAt
  after_pre e f cs = more_if (has_pre (slice_get typed.defs f)) (check_at check.Precondition e) cs

  abbrev pub after_call : TypedExpr → ℕ → FunctionId → List CheckAt → List CheckAt
  after_call e f g cs = more_if (descends f g) (check_at check.Measure e) (after_pre e f cs)

  abbrev pub call : TypedExpr → ℕ → FunctionId → List Expr → List CheckAt → Expr
  call e f g xs cs =
      prog.Call g xs (number_if (has_pre (slice_get typed.defs f)) cs) (number_if (descends f g) (after_pre e f cs))

  -- a case, with what its guard and its body are
  abbrev pub case_at : GenericSort → TypedCase → Option Expr → Expr → Case
  case_at s c guard body = record {
    pattern = pattern_at typed set.roots (out-TypedCase c).pattern s;
    guard = guard;
    body = body;
  }

  mutual
    -- the typed expression is this expression, and its checks come after those before
    pub data Translates : TypedExpr → Expr → List CheckAt → List CheckAt → Type 0 where
      of_int : {e : TypedExpr} {cs : List CheckAt} (n : ℤ) → e.kind ≡ kind.Int n → Translates e (prog.Int n) cs cs
      of_bool : {e : TypedExpr} {cs : List CheckAt} (b : Bool) → e.kind ≡ kind.Bool b → Translates e (prog.Bool b) cs cs
      of_local : {e : TypedExpr} {cs : List CheckAt} (i : ℕ) → e.kind ≡ kind.Local i → Translates e (prog.Var i) cs cs
      of_call : {e : TypedExpr} {es : List TypedExpr} {xs : List Expr} {old mid : List CheckAt} (f : ℕ)
          (sorts : List GenericSort) → e.kind ≡ kind.Call f sorts es → TranslateAll es xs old mid
          → Translates e (call e f (callee f sorts) xs mid) old (after_call e f (callee f sorts) mid)
      of_construct : {e : TypedExpr} {es : List TypedExpr} {xs : List Expr} {old new : List CheckAt} (c : ℕ)
          (sorts : List GenericSort) → e.kind ≡ kind.Construct c sorts es → TranslateAll es xs old new
          → Translates e (prog.Construct (ctor_number typed.ctors set.roots c (map (put own.args) sorts)) xs) old new
      of_field : {e base : TypedExpr} {x : Expr} {old new : List CheckAt} (j : ℕ) → e.kind ≡ kind.Field base j
          → Translates base x old new → Translates e (prog.Field x j) old new
      of_unary : {e a : TypedExpr} {x : Expr} {old new : List CheckAt} (op : UnaryOp) → e.kind ≡ kind.Unary op a
          → Translates a x old new → Translates e (prog.Unary op x) old new
      of_binary : {e a b : TypedExpr} {x y : Expr} {old mid new : List CheckAt} (op : BinaryOp)
          → e.kind ≡ kind.Binary op a b → Translates a x old mid → Translates b y mid new
          → Translates e (prog.Binary op x y (number_if (is_division op) new)) old
          (more_if (is_division op) (check_at check.Division e) new)
      of_if : {e c a b : TypedExpr} {x y z : Expr} {old mid end new : List CheckAt} → e.kind ≡ kind.If c a b
          → Translates c x old mid → Translates a y mid end → Translates b z end new
          → Translates e (prog.If x y z) old new
      of_match : {e m : TypedExpr} {cs : List TypedCase} {x : Expr} {ys : List Case} {old mid new : List CheckAt}
          (covered : Bool) → e.kind ≡ kind.Match m cs → Translates m x old mid
          → IsTrue covered ↔ Covers set.types.ctors (sort_at set.roots own.args m.of)
          (unguarded_at typed set.roots (put own.args m.of) cs)
          → TranslateCases (put own.args m.of) cs ys (more_if (not covered) (check_at check.Match e) mid) new
          → Translates e (prog.Match x ys (number_if (not covered) mid)) old new
      of_val : {e bound rest : TypedExpr} {x y : Expr} {old mid new : List CheckAt} → e.kind ≡ kind.Val bound rest
          → Translates bound x old mid → Translates rest y mid new → Translates e (prog.Val x y) old new
      of_assert : {e c rest : TypedExpr} {x y : Expr} {old mid new : List CheckAt} → e.kind ≡ kind.Assert c rest
          → Translates c x old mid → Translates rest y (mid ++ check_at check.Assertion e ∷ []) new
          → Translates e (prog.Assert (record { 0 = length mid }) x y) old new

    pub data TranslateAll : List TypedExpr → List Expr → List CheckAt → List CheckAt → Type 0 where
      no_exprs : {cs : List CheckAt} → TranslateAll [] [] cs cs
      one_more : {es : List TypedExpr} {e : TypedExpr} {xs : List Expr} {x : Expr} {old mid new : List CheckAt}
          → TranslateAll es xs old mid → Translates e x mid new → TranslateAll (es ++ e ∷ []) (xs ++ x ∷ []) old new

    pub data TranslateGuard : Option TypedExpr → Option Expr → List CheckAt → List CheckAt → Type 0 where
      no_guard : {cs : List CheckAt} → TranslateGuard None None cs cs
      one_guard : {e : TypedExpr} {x : Expr} {old new : List CheckAt} → Translates e x old new
          → TranslateGuard (Some e) (Some x) old new

    -- a case of a matched value of a sort
    pub data TranslateCase : GenericSort → TypedCase → Case → List CheckAt → List CheckAt → Type 0 where
      one_case : {s : GenericSort} (c : TypedCase) {guard : Option Expr} {body : Expr} {old mid new : List CheckAt}
          → TranslateGuard (out-TypedCase c).guard guard old mid → Translates (out-TypedCase c).body body mid new
          → TranslateCase s c (case_at s c guard body) old new

    pub data TranslateCases : GenericSort → List TypedCase → List Case → List CheckAt → List CheckAt → Type 0 where
      no_cases : {s : GenericSort} {cs : List CheckAt} → TranslateCases s [] [] cs cs
      more_cases : {s : GenericSort} {cases : List TypedCase} {c : TypedCase} {ys : List Case} {y : Case}
          {old mid new : List CheckAt} → TranslateCases s cases ys old mid → TranslateCase s c y mid new
          → TranslateCases s (cases ++ c ∷ []) (ys ++ y ∷ []) old new
