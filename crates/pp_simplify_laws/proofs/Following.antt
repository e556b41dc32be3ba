-- Steps that follow others: what they do for the arguments and the step that is asked for.
use Rattle.std.proofs.Common.{◌≡◌, ℕ, ◌<◌, List, ◌++◌, false, length, map, refl, sym, ap, ◌∙◌, subst}
use Rattle.std.specs.Prelude.{if◌then◌else◌}
use Rattle.pp_prog.specs.declared.sort.Sort.{Sort}
use Rattle.pp_prog.specs.declared.types.Ctor.{Ctor}
use Rattle.pp_prog.specs.declared.value.Value.TheVariants.{Bool as Truth}
use Rattle.pp_steps.specs.declared.step.Step.{Step}
use Rattle.pp_steps.specs.Frames.{open_step}
use Rattle.pp_steps.specs.Known.{AllTell}
use Rattle.pp_steps.specs.Meaning.{Missing, Obeys, Values}
use Rattle.pp_steps.specs.Reads.{AllRead}
use Rattle.pp_simplify.specs.Folded.{all_folded}
use Rattle.pp_simplify.specs.Marks.{is_marked}
use Rattle.pp_simplify.specs.Names.{named}
use Rattle.pp_simplify.specs.Pruned.{IsPruned}
use Rattle.pp_simplify_laws.specs.Fully.{IsFully, folded_known, fully}
use Rattle.pp_simplify_laws.specs.Kept.{kept_known, kept_values}
use Rattle.pp_simplify_laws.proofs.FoldLaws.{folded_obey, folded_tell, opens_fully}
use Rattle.pp_simplify_laws.proofs.Laws.{pruned_keep, pruned_obey, pruned_tell}

-- where K says of the new numbers what is known, so much is known of the old ones
pub record Learns (first asked next : ℕ) (old : List Step) (ρ : Values) (K : ℕ → Type 0) : Type 1 where
  pub known : ℕ → Type 0
  pub tells : AllTell ρ known 0 old
  pub front : (k : ℕ) → k < first → K k → known k
  pub target : known asked → K next

-- values that obey the new steps, and what is known of the old ones by them
pub record Follows (ctors : List Ctor) (missing : Missing) (first asked next : ℕ) (old new : List Step) (ρ : Values)
    : Type 1 where
  pub values : Values
  pub obeys : Obeys ctors missing values 0 new
  pub front : (k : ℕ) → k < first → values k ≡ ρ k
  pub target : values next ≡ ρ asked
  pub learns : (K : ℕ → Type 0) → AllTell values K 0 new → Learns first asked next old ρ K

pub follows_pruned : (ctors : List Ctor) (missing : Missing) (first asked : ℕ) (old new : List Step) (ρ : Values)
    → IsPruned first asked old new → Obeys ctors missing ρ 0 old → Follows ctors missing first asked asked old new ρ
follows_pruned ctors missing first asked old new ρ is obeys =
    let kept = is_marked is.marks in
    let are = pruned_keep first asked old new is in
    record {
      values = kept_values kept ρ;
      obeys = pruned_obey first asked old new is ctors missing ρ obeys;
      front = λ k lt. ap (λ b. if b then ρ k else Truth false) (are.front k lt);
      target = ap (λ b. if b then ρ asked else Truth false) are.target;
      learns = λ K tells. record {
        known = kept_known kept K;
        tells = pruned_tell K first asked old new is ρ tells;
        front = λ k lt known on. known;
        target = λ known. known are.target;
      };
    }

known_fully : (news : List Step) (K : ℕ → Type 0) (k : ℕ) → IsFully news K k → K k
known_fully news K k (fully j known fields) = known

pub follows_folded : (ctors : List Ctor) (missing : Missing) (params : List Sort) (rest : List Step) (asked : ℕ)
    (old : List Step) (ρ : Values) → old ≡ map open_step params ++ rest → AllRead 0 old → Obeys ctors missing ρ 0 old
    → Follows ctors missing (length params) asked (named (all_folded old).names asked) old (all_folded old).steps ρ
follows_folded ctors missing params rest asked old ρ split reads obeys =
    let agree = folded_obey old reads ctors missing ρ obeys in
    record {
      values = ρ;
      obeys = agree.obeys;
      front = λ k lt. refl;
      target = agree.same asked;
      learns = λ K tells. record {
        known = folded_known (all_folded old) K;
        tells = folded_tell K old reads ctors missing ρ obeys tells;
        front = λ k lt known. subst (λ l. folded_known (all_folded l) K k) (sym split)
            (opens_fully K params rest k lt known);
        target = known_fully (all_folded old).steps K (named (all_folded old).names asked);
      };
    }

-- steps that follow steps that follow others
pub follows_more : (ctors : List Ctor) (missing : Missing) (many a b c : ℕ) (old mid new : List Step) (ρ : Values)
    → (f : Follows ctors missing many a b old mid ρ) → Follows ctors missing many b c mid new f.values
    → Follows ctors missing many a c old new ρ
follows_more ctors missing many a b c old mid new ρ f g = record {
  values = g.values;
  obeys = g.obeys;
  front = λ k lt. g.front k lt ∙ f.front k lt;
  target = g.target ∙ f.target;
  learns = λ K tells.
      let h = g.learns K tells in
      let i = f.learns h.known h.tells in
      record {
        known = i.known;
        tells = i.tells;
        front = λ k lt known. i.front k lt (h.front k lt known);
        target = λ known. h.target (i.target known);
      };
}
