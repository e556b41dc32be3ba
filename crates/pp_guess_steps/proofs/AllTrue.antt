-- The second half, but for the own frame: values that obey all steps but the open calls, and for which all that is
-- supposed is true, are those of a guess run: each call that is reached and has an answer has this value in it, where
-- the answers are those of the calls that were left open.
use Rattle.std.proofs.Common.{◌≡◌, ◌≤◌, ◌-◌, ℕ, suc, true, List, [], ◌∷◌, ◌++◌, map, Option}
use Rattle.std.proofs.Common.{Some, None, Ok, refl, ap, arith, Contains}
use Rattle.std.specs.Prelude.{nat_eq, nat_le, slice_get}
use Rattle.std.proofs.lemmas.Bool.{eq-eqb, eqb-true}
use Rattle.std.proofs.lemmas.Bool.Decides.{nat_tests}
use Rattle.pp_prog.specs.declared.expr.Expr.{Expr}
use Rattle.pp_prog.specs.declared.expr.Function.{Function}
use Rattle.pp_prog.specs.declared.id.CheckId.{CheckId}
use Rattle.pp_prog.specs.declared.id.CtorId.{CtorId}
use Rattle.pp_prog.specs.declared.types.Ctor.{Ctor}
use Rattle.pp_prog.specs.declared.value.Value.{Value}
use Rattle.pp_prog.specs.declared.value.Value.TheVariants.{Bool as Truth}
use Rattle.pp_eval.specs.Meaning.{CallMeaning, meaning}
use Rattle.pp_eval.specs.Operators.{truth}
use Rattle.pp_eval.specs.Part.{and_then}
use Rattle.pp_eval.proofs.Extends.{CallsCover}
use Rattle.pp_guess_runs.specs.Answers.{Answers}
use Rattle.pp_guess_runs.specs.Guess.{called, or_deep}
use Rattle.pp_steps.specs.Guesses.{Standing, guess_steps, standing}
use Rattle.pp_steps.specs.Meaning.{Missing, Obeys, Values, bit}
use Rattle.pp_steps_run.specs.Told.{AllOf, On}
use Rattle.pp_steps_run.proofs.Lasting.{Lasts}
use Rattle.pp_guess_steps.specs.Laws.{Agreed, ObeysRest}
use Rattle.pp_guess_steps.proofs.CallsPaired.{guess_paired}
use Rattle.pp_guess_steps.proofs.CallsTrue.{IsDone, IsSettled, standing_true}
use Rattle.pp_guess_steps.proofs.StandingAgree.{all_agree, true_on}
use Rattle.pp_guess_steps.specs.OpenCalls.{answered}
use Rattle.pp_guess_steps.proofs.TiesBack.{tied_at}
use Rattle.pp_guess_steps.specs.OwnWorld.{own_answer, own_world}
use Rattle.pp_guess_steps.proofs.OwnWorld.{found_of, hit_of, obeys_own, two_agree}

-- an answer that has a value is that value
pub deep_some : (o : Option Value) (u : Value) → or_deep o ≡ Ok u → o ≡ Some u
deep_some None u e = cc
deep_some (Some v) u e = let same : v ≡ u = cc in ap Some same

le_on : (a b : ℕ) → a ≤ b → nat_le a b ≡ true
le_on a b h = grind (arith, nat_tests)

module _ (ctors : List Ctor) (functions : List Function) (field : CtorId → ℕ → Value) (ρ : Values) (f : Function)
    (check : CheckId) (N : ℕ) where
  abbrev pub all : List Standing
  all = standing 0 (guess_steps functions f check N).steps

  -- the world of the values
  abbrev pub Own : Missing
  Own = own_world field ρ all

  -- the answers of the calls that were left open
  abbrev pub answers : Answers
  answers g vs = own_answer ρ all (λ i. nat_le N i) g vs

  module _ (rest : ObeysRest ctors Own ρ 0 (guess_steps functions f check N).steps)
      (on : AllOf (On ρ) (guess_steps functions f check N).supposed)
      (truths : (c : Standing) → Contains all c → ρ c.has ≡ Truth (bit (ρ c.has))) where
    two : (c d : Standing) → Contains all c → Contains all d → nat_eq c.call.callee.0 d.call.callee.0 ≡ true
        → Agreed ρ c d
    two = two_agree ctors Own ρ all [] (all_agree ctors Own ρ functions f check N rest on
        (true_on ctors Own ρ functions f check N rest))

    -- the open calls are obeyed too
    pub obeys : Obeys ctors Own ρ 0 (guess_steps functions f check N).steps
    obeys = obeys_own ctors field ρ all two truths 0 (guess_steps functions f check N).steps (λ c has. has)
        (guess_paired functions f check N) rest

    abbrev pub Done : Standing → Type 0
    Done = IsDone ctors functions N ρ Own answers all

    abbrev pub Ans : ℕ → CallMeaning
    Ans w = answered functions Own w

    listed : (c : Standing) → Contains all c → Done c → N ≤ c.call.wait
        → (u : Value) × (answers c.call.callee (map ρ c.call.args) ≡ Some u)
    listed c there done late = by (answers c.call.callee (map ρ c.call.args)) refl
      where
        by : (o : Option Value) → answers c.call.callee (map ρ c.call.args) ≡ o
            → (u : Value) × (answers c.call.callee (map ρ c.call.args) ≡ Some u)
        by None e = absurd (found_of ρ all (λ i. nat_le N i) c there (le_on N c.call.wait late) done.reach done.has e)
        by (Some u) e = (u, e)

    -- what is left to show: a run over answers, each missing one of which is replaced, is neither deep nor stuck
    module _ (Full : ℕ → CallMeaning) (cover : (w : ℕ) → CallsCover (Ans w) (Full w))
        (body_lasts : (c : Standing) (g : Function) → Contains all c → slice_get functions c.call.callee.0 ≡ Some g
        → Lasts (meaning (Full (suc c.call.wait)) g.body None (map ρ c.call.args)))
        (post_lasts : (c : Standing) (g : Function) (post : CheckId × Expr) → Contains all c
        → slice_get functions c.call.callee.0 ≡ Some g → g.post ≡ Some post
        → Lasts (and_then (meaning (Full (suc c.call.wait)) post.1 None (map ρ c.call.args ++ ρ c.result ∷ [])) truth))
      where
        settled : IsSettled ctors functions N ρ Own answers all Full
        settled = record {
          own = λ w g vs u frame pre down e.
              (let d = hit_of ρ all (λ i. nat_eq i w) g vs u (deep_some _ u e) in (
                d.0,
                record {
                  there = (d.1).there;
                  callee = (d.1).callee;
                  args = (d.1).args;
                  done = record { reach = (d.1).reach; has = (d.1).has };
                  value = (d.1).value;
                },
                eqb-true d.0.call.wait w (d.1).wait,
              ));
          entry = λ g vs u e.
              (let d = hit_of ρ all (λ i. nat_le N i) g vs u e in (
                d.0,
                record {
                  there = (d.1).there;
                  callee = (d.1).callee;
                  args = (d.1).args;
                  done = record { reach = (d.1).reach; has = (d.1).has };
                  value = (d.1).value;
                },
              ));
          listed = listed;
          agree = λ c d hc hd dc dd same args.
              (two c d hc hd (eq-eqb c.call.callee.0 d.call.callee.0 (ap (λ g. g.0) same))).result
              (record { first = dc.reach; second = dd.reach; args = args }) dc.has dd.has;
          tied = tied_at functions f check ctors Own ρ N obeys on;
          cover = cover;
          body_lasts = body_lasts;
          post_lasts = post_lasts;
        }

        -- each call that is reached and has an answer has it in the guess run
        pub all_true : (c : Standing) → Contains all c → Done c
            → called functions answers (N - c.call.wait) None c.call.callee None None (map ρ c.call.args) ≡ Ok
            (ρ c.result)
        all_true c there done = standing_true ctors functions N ρ Own answers all Full settled (N - c.call.wait) c there
            done refl
