-- Guess runs of a function whose call tree is at most n deep are the same in round n and the one after it.
use Rattle.std.proofs.Common.{◌≡◌, ℕ, zero, suc, List, [], ◌∷◌, ◌++◌, map, Option, Some, None, Ok, slice_get, refl, sym}
use Rattle.std.proofs.Common.{ap, subst, Contains}
use Rattle.pp_list.specs.Joined.{joined}
use Rattle.pp_graph.specs.Reaches.{calls_of}
use Rattle.pp_prog.specs.declared.expr.Expr.{Expr}
use Rattle.pp_prog.specs.declared.expr.Function.{Function}
use Rattle.pp_prog.specs.declared.id.CheckId.{CheckId}
use Rattle.pp_prog.specs.declared.id.FunctionId.{FunctionId}
use Rattle.pp_prog.specs.declared.types.Ctor.{Ctor}
use Rattle.pp_prog.specs.declared.value.Value.{Value}
use Rattle.pp_prog.specs.Calls.{call_table, calls, contract_calls, function_calls, post_calls, pre_calls}
use Rattle.pp_checks.specs.Closed.{Nests}
use Rattle.pp_checks.proofs.Ruling.{calls_at}
use Rattle.pp_eval.specs.Invocation.{admits, descends}
use Rattle.pp_eval.specs.Meaning.{CallMeaning, Frame}
use Rattle.pp_eval.specs.Part.{and_then, either, failed, inside}
use Rattle.pp_eval.specs.Runs.{run_with}
use Rattle.pp_guess_runs.specs.Answers.{Answering, Answers, answers_of}
use Rattle.pp_guess_runs.specs.Guess.{agreed, called, compared, guess, guessed, held, is_check, own, own_call}
use Rattle.pp_guess_runs.specs.Guess.{unfolded}
use Rattle.pp_run_laws.proofs.Depends.{allowed_same, expr_same, frame_same, run_same, same_left, same_right, then_same}
use Rattle.pp_run_laws.specs.Laws.{SameAt}

-- calls that do the same at all that a function calls do the same in each of its parts
module _ (c d : CallMeaning) (f : Function) (same : SameAt (function_calls f) c d) where
  before_post : SameAt (contract_calls f ++ calls f.body) c d
  before_post = same_left (contract_calls f ++ calls f.body) (post_calls f.post) c d same

  contracts : SameAt (contract_calls f) c d
  contracts = same_left (contract_calls f) (calls f.body) c d before_post

  held_same : (args : List Value) (v : Value) → held c f.post args v ≡ held d f.post args v
  held_same args v =
      by f.post (same_right (contract_calls f ++ calls f.body) (post_calls f.post) c d same)
    where
      by : (post : Option (CheckId × Expr)) → SameAt (post_calls post) c d → held c post args v ≡ held d post args v
      by None same = refl
      by (Some post) same = then_same _ _ (expr_same c d post.1 same None (args ++ v ∷ [])) (λ x. refl)

  -- so a call that is unfolded is the same
  unfolded_same : (answer : Option Value) (g : FunctionId) (args : List Value)
      → unfolded c answer (Some f) g args ≡ unfolded d answer (Some f) g args
  unfolded_same answer g args =
      ap (inside g)
      (then_same _ _ (expr_same c d f.body (same_right (contract_calls f) (calls f.body) c d before_post) None args)
      (λ v. ap (λ q. and_then q (agreed answer)) (held_same args v)))

  admits_same : (g : FunctionId) (check : Option CheckId) (args : List Value)
      → admits c g f.pre check args ≡ admits d g f.pre check args
  admits_same g check args =
      ap (λ q. and_then (inside g q) (λ t. either t (Ok tt) (failed check)))
      (allowed_same c d f.pre (same_left (pre_calls f.pre) (joined (map calls f.measure)) c d contracts) args)

  compared_same : (ctors : List Ctor) (check : CheckId) (g : FunctionId) (down : Option CheckId) (frame : Frame)
      (args : List Value)
      → compared ctors check c f.measure g down frame args ≡ compared ctors check d f.measure g down frame args
  compared_same ctors check g down frame args =
      ap (λ q. either (is_check check down) (and_then (inside g q) (λ new. descends ctors down frame new)) (Ok tt))
      (frame_same c d f.measure (same_right (pre_calls f.pre) (joined (map calls f.measure)) c d contracts) args)

module _ (ctors : List Ctor) (fs : List Function) (W : Answers) (check : CheckId) where
  abbrev AreSame : CallMeaning → CallMeaning → FunctionId → Type 0
  AreSame c d g =
      (frame : Frame) (pre down : Option CheckId) (args : List Value)
      → c frame g pre down args ≡ d frame g pre down args

  -- where calls do the same at each function of a list
  at_callees : (g : FunctionId) (f : Function) (c d : CallMeaning) → slice_get fs g.0 ≡ Some f
      → ((h : FunctionId) → Contains (calls_of (call_table fs) g.0) h.0 → AreSame c d h) → SameAt (function_calls f) c d
  at_callees g f c d is same frame h has =
      same h (subst (λ l. Contains l h.0) (sym (calls_at fs g.0 f is)) has) frame

  -- a call from a called frame
  unfolded_at : (g : FunctionId) (c d : CallMeaning)
      → ((h : FunctionId) → Contains (calls_of (call_table fs) g.0) h.0 → AreSame c d h) → (answer : Option Value)
      (args : List Value) → unfolded c answer (slice_get fs g.0) g args ≡ unfolded d answer (slice_get fs g.0) g args
  unfolded_at g c d same answer args = by (slice_get fs g.0) refl
    where
      by : (o : Option Function) → slice_get fs g.0 ≡ o → unfolded c answer o g args ≡ unfolded d answer o g args
      by None is = refl
      by (Some f) is = unfolded_same c d f (at_callees g f c d is same) answer g args

  called_same : (n : ℕ) (g : FunctionId) → Nests (call_table fs) n g.0
      → AreSame (called fs W (suc n)) (called fs W (suc (suc n))) g
  called_same zero g nests frame pre down args =
      unfolded_at g (called fs W zero) (called fs W (suc zero)) (λ h has. absurd (nests h.0 has)) (W g args) args
  called_same (suc n) g nests frame pre down args =
      unfolded_at g (called fs W (suc n)) (called fs W (suc (suc n))) (λ h has. called_same n h (nests h.0 has))
      (W g args) args

  -- the callees of a function that is nested so deep, in its contracts, where there is one fuel less
  contract_same : (n : ℕ) (g : FunctionId) → Nests (call_table fs) n g.0
      → (h : FunctionId) → Contains (calls_of (call_table fs) g.0) h.0
      → AreSame (called fs W n) (called fs W (suc n)) h
  contract_same zero g nests h has = absurd (nests h.0 has)
  contract_same (suc n) g nests h has = called_same n h (nests h.0 has)

  own_call_same : (o : Option Function) (g : FunctionId) (c d e k : CallMeaning)
      → ((f : Function) → o ≡ Some f → SameAt (function_calls f) c d) → AreSame e k g
      → AreSame (λ frame g. own_call ctors check c e o frame g) (λ frame g. own_call ctors check d k o frame g) g
  own_call_same None g c d e k alike outer frame pre down args = refl
  own_call_same (Some f) g c d e k alike outer frame pre down args =
      then_same _ _ (admits_same c d f (alike f refl) g pre args)
      (λ _. then_same _ _ (compared_same c d f (alike f refl) ctors check g down frame args)
      (λ _. outer frame pre down args))

  own_same : (n : ℕ) (g : FunctionId) → Nests (call_table fs) n g.0
      → AreSame (own ctors fs W check (suc n)) (own ctors fs W check (suc (suc n))) g
  own_same n g nests =
      own_call_same (slice_get fs g.0) g (called fs W n) (called fs W (suc n)) (called fs W (suc n))
      (called fs W (suc (suc n)))
      (λ f is. at_callees g f (called fs W n) (called fs W (suc n)) is (contract_same n g nests))
      (called_same n g nests)

  -- so the guess run of a function whose call tree is at most n deep is the same in the next round
  run_same_after : (n i : ℕ) (f : Function) → slice_get fs i ≡ Some f → Nests (call_table fs) n i → (args : List Value)
      → run_with (own ctors fs W check n) f args ≡ run_with (own ctors fs W check (suc n)) f args
  run_same_after zero i f is nests args =
      run_same _ _ f (λ frame g has. absurd (nests g.0 (subst (λ l. Contains l g.0) (sym (calls_at fs i f is)) has)))
      args
  run_same_after (suc n) i f is nests args =
      run_same _ _ f
      (λ frame g has. own_same n g (nests g.0 (subst (λ l. Contains l g.0) (sym (calls_at fs i f is)) has)) frame)
      args

pub guess_same_after : (ctors : List Ctor) (fs : List Function) (n i : ℕ) (f : Function) → slice_get fs i ≡ Some f
    → Nests (call_table fs) n i → (c : CheckId) (args : List Value) (W : Answering)
    → guess ctors fs f c args n W ≡ guess ctors fs f c args (suc n) W
guess_same_after ctors fs n i f is nests c args W =
    ap (guessed c) (run_same_after ctors fs (answers_of ctors fs W) c n i f is nests args)
