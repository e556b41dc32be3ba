-- Which functions of a program, with the numbers of their checks, are functions at the arguments of an instance: the
-- checks of the precondition, the measure, the body and the postcondition, in this order, and last the postcondition's
-- own. Source: own.
use Rattle.std.specs.Prelude.{◌≡◌, ℕ, suc, List, [], ◌∷◌, ◌++◌, map, Option, Some, None, length, slice_get}
use Rattle.pp_instances.specs.declared.member.Instance.{Instance}
use Rattle.pp_prog.specs.declared.check.Check.{Check}
use Rattle.pp_prog.specs.declared.check.CheckKind.TheVariants as check
use Rattle.pp_prog.specs.declared.expr.Expr.{Expr}
use Rattle.pp_prog.specs.declared.expr.Function.{Function}
use Rattle.pp_prog.specs.declared.id.CheckId.{CheckId}
use Rattle.pp_translation.specs.Functions.{as_one, param_at, place_at}
use Rattle.pp_translation.specs.Numbered.{Translates, TranslateAll, is_written}
use Rattle.pp_translation.specs.Numbers.{sort_at}
use Rattle.pp_translation.specs.Setting.{Setting}
use Rattle.pp_translation.specs.declared.frame.CheckAt.{CheckAt}
use Rattle.pp_translation.specs.declared.frame.Frame.{Frame}
use Rattle.pp_typed.specs.Stand.{Stands}
use Rattle.pp_typed.specs.declared.expr.TypedExpr.{TypedExpr}
use Rattle.pp_typed.specs.declared.typed.Typed.{Typed}
use Rattle.pp_typed.specs.declared.typed.TypedDef.{TypedDef}
use Rattle.pp_typed.specs.declared.typed.TypedPost.{TypedPost}

module _ (typed : Typed) (set : Setting) (own : Frame) where
  -- several conditions, which are one
  pub record TranslateConditions (es : List TypedExpr) (whole : Option Expr) (old new : List CheckAt) : Type 0 where
    pub parts : List Expr
    pub each : TranslateAll typed set own es parts old new
    pub one : whole ≡ as_one parts

  -- a check at an offset of a source
  abbrev pub post_check : ℕ → ℕ → CheckAt
  post_check source at = record { function = own.number; kind = check.Postcondition; source = source; at = at }

  -- the postcondition of a function in a source
  pub data TranslatesPost (source : ℕ) : Option TypedPost → Option (CheckId × Expr) → List CheckAt → List CheckAt
      → Type 0 where
    no_post : {cs : List CheckAt} → TranslatesPost source None None cs cs
    one_post : {post : TypedPost} {claim : Expr} {old new : List CheckAt}
        → Translates typed set own post.claim claim old new
        → TranslatesPost source (Some post) (Some (record { 0 = length new }, claim)) old
        (new ++ post_check source post.at ∷ [])

  -- the function is that of the instance
  pub record TranslatesDef (texts : List (List ℕ)) (i : Instance) (d : TypedDef) (f : Function)
      (old new : List CheckAt) : Type 0 where
    pub name : f.name ≡ i.name
    pub place : f.place ≡ place_at texts (d.source, d.at)
    pub params : f.params ≡ map (param_at set.roots own.args) d.params
    pub result : f.result ≡ sort_at set.roots own.args d.result
    pub after_pre : List CheckAt
    pub pre : TranslateConditions d.pre f.pre old after_pre
    pub after_measure : List CheckAt
    pub measure : TranslateAll typed set own d.measure f.measure after_pre after_measure
    pub after_body : List CheckAt
    pub body : Translates typed set own d.body f.body after_measure after_body
    pub post : TranslatesPost d.source d.post f.post after_body new

-- the functions are those of the instances, in order; an instance of no function is none
pub data TranslatesDefs (typed : Typed) (set : Setting) (texts : List (List ℕ)) : List Instance → List Function
    → List CheckAt → List CheckAt → Type 0 where
  no_defs : {cs : List CheckAt} → TranslatesDefs typed set texts [] [] cs cs
  more_defs : {is : List Instance} {i : Instance} {fs : List Function} {f : Function} {old mid new : List CheckAt}
      (own : Frame) (d : TypedDef)
      → own.number ≡ length fs → own.args ≡ i.args → own.measured ≡ is_written d.measure
      → slice_get typed.defs i.number ≡ Some d
      → TranslatesDefs typed set texts is fs old mid → TranslatesDef typed set own texts i d f mid new
      → TranslatesDefs typed set texts (is ++ i ∷ []) (fs ++ f ∷ []) old new
  none_more : {is : List Instance} (i : Instance) {fs : List Function} {old new : List CheckAt}
      → slice_get typed.defs i.number ≡ None
      → TranslatesDefs typed set texts is fs old new → TranslatesDefs typed set texts (is ++ i ∷ []) fs old new

abbrev pub numbered : List (List ℕ) → ℕ → CheckAt → Check
numbered texts n c = record {
  id = record { 0 = n };
  function = record { 0 = c.function };
  kind = c.kind;
  place = place_at texts (c.source, c.at);
}

-- the checks of a program, from this number on
abbrev pub checks_from : List (List ℕ) → ℕ → List CheckAt → List Check
checks_from texts n [] = []
checks_from texts n (c ∷ cs) = numbered texts n c ∷ checks_from texts (suc n) cs

-- a check stands in the text of its source
abbrev pub StandsAt : List (List ℕ) → CheckAt → Type 0
StandsAt texts c = Stands texts (c.source, c.at)
