-- What is left, when things are put before it.
use Rattle.std.proofs.Common.{◌≡◌, ◌∙◌, List, [], ◌∷◌, ◌++◌, Result, Ok, Err, refl, ap}
use Rattle.std.specs.Result.{OnOk}
use Rattle.pp_stack.specs.declared.todo.Code.{Code}
use Rattle.pp_stack.specs.declared.todo.Todo.{Todo}
use Rattle.pp_stack.specs.Left.{Rest, after, left, left_before}

left_before_push : (code : Code) (k : Rest) (ts : List Todo) (t : Todo)
    → left_before code k (ts ++ t ∷ []) ≡ after code t (left_before code k ts)
left_before_push code k [] t = refl
left_before_push code k (u ∷ ts) t = left_before_push code (after code u k) ts t

-- what was put last comes first
pub left_push : (code : Code) (old new : List Todo) (t : Todo) → new ≡ old ++ t ∷ []
    → left code new ≡ after code t (left code old)
left_push code old new t is = ap (left code) is ∙ left_before_push code Ok old t

pub left_push2 : (code : Code) (old mid new : List Todo) (t u : Todo) → mid ≡ old ++ t ∷ [] → new ≡ mid ++ u ∷ []
    → left code new ≡ after code u (after code t (left code old))
left_push2 code old mid new t u first second =
    left_push code mid new u second ∙ ap (after code u) (left_push code old mid t first)

pub left_push3 : (code : Code) (old mid more new : List Todo) (t u v : Todo) → mid ≡ old ++ t ∷ []
    → more ≡ mid ++ u ∷ [] → new ≡ more ++ v ∷ []
    → left code new ≡ after code v (after code u (after code t (left code old)))
left_push3 code old mid more new t u v first second third =
    left_push code more new v third ∙ ap (after code v) (left_push2 code old mid more t u first second)

-- the same where the last push may fail, and what comes then is this
pub left_pushed : {E : Type 0} (code : Code) (r : Result (Unit {0}) E) (old new : List Todo) (t : Todo) (whole : Rest)
    → OnOk r (new ≡ old ++ t ∷ []) → after code t (left code old) ≡ whole → OnOk r (left code new ≡ whole)
left_pushed code (Ok x) old new t whole is same = left_push code old new t is ∙ same
left_pushed code (Err e) old new t whole is same = tt

pub left_pushed2 : {E : Type 0} (code : Code) (r : Result (Unit {0}) E) (old mid new : List Todo) (t u : Todo)
    (whole : Rest) → mid ≡ old ++ t ∷ [] → OnOk r (new ≡ mid ++ u ∷ [])
    → after code u (after code t (left code old)) ≡ whole → OnOk r (left code new ≡ whole)
left_pushed2 code (Ok x) old mid new t u whole first second same = left_push2 code old mid new t u first second ∙ same
left_pushed2 code (Err e) old mid new t u whole first second same = tt

pub left_pushed3 : {E : Type 0} (code : Code) (r : Result (Unit {0}) E) (old mid more new : List Todo) (t u v : Todo)
    (whole : Rest) → mid ≡ old ++ t ∷ [] → more ≡ mid ++ u ∷ [] → OnOk r (new ≡ more ++ v ∷ [])
    → after code v (after code u (after code t (left code old))) ≡ whole → OnOk r (left code new ≡ whole)
left_pushed3 code (Ok x) old mid more new t u v whole first second third same =
    left_push3 code old mid more new t u v first second third ∙ same
left_pushed3 code (Err e) old mid more new t u v whole first second third same = tt
