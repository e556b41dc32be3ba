use Rattle.std.proofs.Common.{◌≡◌, ◌+◌, ◌++◌, ◌∷◌, [], ℕ, suc, List, drop, get_or, false, sym, ap, ◌∙◌, arith}
use Rattle.std.proofs.Math.Seq.{drop-cons}
use Rattle.pp_prog.specs.declared.types.Ctor.{Ctor}
use Rattle.pp_prog.specs.declared.sort.Sort.{Sort}
use Rattle.pp_cover.specs.declared.matrix.Matrix.{Matrix}
use Rattle.pp_cover.specs.Matrix.{specialize}
use Rattle.pp_cover.specs.Split.{ctor_head, named_parts}
use Rattle.pp_cover.proofs.Parts.{named_skipped, named_taken}
use Rattle.pp_cover.proofs.split.named_parts.Goals.{then-names+in_ok-specialize+in_ok-push, else-names}
use Rattle.pp_cover.proofs.split.named_parts.Goals as goal

pub loop-i-preserved : goal.loop-i-preserved
loop-i-preserved c =
    let m = c.args.matrix.now in
    let k = c.args.column in
    let i = c.loop-i.i in
    let ctors = c.args.ctors.now in
    let rest = drop (suc i) ctors in
    let next = c.args.first + (i + 1) in
    let whole = named_parts m k c.args.first ctors in
    let further : next ≡ suc (c.args.first + i) = omega arith in
    let one : i + 1 ≡ suc i = omega arith in
    let same : drop (i + 1) ctors ≡ rest = ap (λ (j : ℕ). drop j ctors) one in
    elim c.if-names.branch [
      | then-names+in_ok-specialize+in_ok-push w ↦
          let x = w.index-ctors-i.result in
          let cut : drop i ctors ≡ x ∷ rest = drop-cons ctors i x c.loop-i-test.true
          ∙ ap (λ (y : Ctor). y ∷ rest) (sym w.index-ctors-i.is) in
          let taken = named_taken m k (c.args.first + i) next x
          (drop i ctors) rest c.loop-i.parts whole cut further c.loop-i.invariant (sym w.if-names.ensures) in
          let part = w.in_ok-specialize.ensures
          ∙ ap (λ (l : List Sort). specialize m k (ctor_head (c.args.first + i)) l) w.as_slice.ensures
          ∙ ap (λ (y : Ctor). specialize m k (ctor_head (c.args.first + i)) y.fields) (sym w.index-ctors-i.is) in
          ap (λ (l : List Matrix). l ++ named_parts m k next (drop (i + 1) ctors))
          (w.parts-is ∙ w.in_ok-push.ensures.ok ∙ ap (λ (p : Matrix). c.loop-i.parts ++ p ∷ []) part)
          ∙ ap (λ (l : List Ctor).
          (c.loop-i.parts ++ specialize m k
          (ctor_head (c.args.first + i)) x.fields ∷ []) ++ named_parts m k next l) same
          ∙ taken
      | else-names w ↦
          let x = get_or ctors i (record { name = []; of = record { 0 = 0 }; fields = []; object = false }) in
          let cut : drop i ctors ≡ x ∷ rest = drop-cons ctors i
          (record { name = []; of = record { 0 = 0 }; fields = []; object = false }) c.loop-i-test.true in
          let skipped = named_skipped m k (c.args.first + i) next x
          (drop i ctors) rest c.loop-i.parts whole cut further c.loop-i.invariant (sym w.if-names.ensures) in
          ap (λ (l : List Matrix). l ++ named_parts m k next (drop (i + 1) ctors)) w.parts-is
          ∙ ap (λ (l : List Ctor). c.loop-i.parts ++ named_parts m k next l) same
          ∙ skipped
    ]
