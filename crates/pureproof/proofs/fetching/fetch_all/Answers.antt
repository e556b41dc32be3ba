use Rattle.std.proofs.Common.{[], All, ◌<◌, Err, length, map, refl, sym, ap, ◌∙◌, subst, arith}
use Rattle.std.specs.Prelude.{IfSome}
use Rattle.std.proofs.lemmas.List.{append-nil}
use Rattle.pp_front.specs.Programs.{IsShort, bytes_of}
use Rattle.pp_text.specs.Limits.{most_bytes}
use Rattle.pureproof.proofs.Held.{asked_more, asks_next, err_is, fails_next, held_more, long_next, not_grown}
use Rattle.pureproof.proofs.Held.{short_more}
use Rattle.pureproof.specs.Fetched.{AreHeld, IsHeld, no_paths, told}
use Rattle.pureproof.proofs.fetching.fetch_all.Goals as goal

pub loop-path-init : goal.loop-path-init
loop-path-init g c = (
  subst (λ s. AreHeld (g.S.Shelf.held c.args.shelf.now) [] (map bytes_of s)) (sym c.requires.none) no_paths,
  sym (append-nil (g.S.Shelf.asked c.args.shelf.now)),
  subst (All IsShort) (sym c.requires.none) (λ k d lt. absurd (omega (arith, lt))),
  refl,
  λ p. refl,
)

pub returns-in-Err-clause-failed : goal.returns-in-Err-clause-failed
returns-in-Err-clause-failed g c = λ is.
    let inv = c.loop-path.invariant in
    fails_next (told g.S.Shelf.held g.S.Shelf.asked g.S.Shelf.failed g.S.Shelf.seen c.args.shelf.now
    c.fetch.new.self) c.args.files.now
    c.loop-path.path-index
    _ c.loop-path.sources.items c.loop-path-test.true inv.0 inv.2 (g.S.Shelf.asked c.loop-path.shelf) inv.1
    (g.S.Shelf.failed c.loop-path.shelf) c.fetch.result inv.3 c.fetch.ensures.asked
    c.fetch.ensures.failed (c.in-Err.is ∙ ap Err (err_is is))

pub returns-in-Err-clause-long : goal.returns-in-Err-clause-long
returns-in-Err-clause-long g c = λ is.
    let inv = c.loop-path.invariant in
    let long = c.in-Err.is ∙ ap Err (err_is is) in
    long_next (told g.S.Shelf.held g.S.Shelf.asked g.S.Shelf.failed g.S.Shelf.seen c.args.shelf.now
    c.fetch.new.self) c.args.files.now
    c.loop-path.path-index
    _ c.loop-path.sources.items c.loop-path-test.true inv.0 inv.2 (g.S.Shelf.asked c.loop-path.shelf) inv.1
    c.fetch.result c.fetch.ensures.asked long
    (not_grown (g.S.Shelf.failed c.loop-path.shelf) (g.S.Shelf.failed c.fetch.new.self) _ c.fetch.result
    c.fetch.ensures.failed long ∙ inv.3)
    (c.fetch.ensures.long long)
    (subst (λ o. IfSome o (λ bytes. most_bytes < length bytes)) (inv.4 _) (c.fetch.ensures.long_held long))

pub loop-path-preserved : goal.loop-path-preserved
loop-path-preserved g c =
    let inv = c.loop-path.invariant in (
      held_more (g.S.Shelf.held c.args.shelf.now) c.args.files.now c.loop-path.path-index _ c.in-Ok.source
          c.loop-path.sources.items
          c.loop-path-test.true inv.0 c.in_ok-keep-in-Ok.ensures.more
          (subst (λ o. IsHeld o c.in-Ok.source.items) (inv.4 _) c.in-Ok.ensures.bytes),
      asked_more (g.S.Shelf.asked c.args.shelf.now) c.args.files.now c.loop-path.path-index _ c.loop-path-test.true
          inv.1 c.in-Ok.ensures.asked,
      short_more c.loop-path.sources.items c.keep.new.sources.items c.in-Ok.source inv.2 c.in_ok-keep-in-Ok.ensures.more
          c.in-Ok.ensures.bound,
      c.in-Ok.ensures.failed ∙ inv.3,
      λ p. c.in-Ok.ensures.kept p ∙ inv.4 p,
    )

-- what was asked for is a front of the files, whatever the fetch of the next one answers
pub returns-in_err-keep-in-Ok-clause-front : goal.returns-in_err-keep-in-Ok-clause-front
returns-in_err-keep-in-Ok-clause-front g c =
    asks_next (told g.S.Shelf.held g.S.Shelf.asked g.S.Shelf.failed g.S.Shelf.seen c.args.shelf.now c.fetch.new.self)
    c.args.files.now c.loop-path.path-index _ c.fetch.result (g.S.Shelf.asked c.loop-path.shelf)
    c.loop-path-test.true c.loop-path.invariant.1 c.fetch.ensures.asked

pub returns-in-Err-clause-front : goal.returns-in-Err-clause-front
returns-in-Err-clause-front g c =
    asks_next (told g.S.Shelf.held g.S.Shelf.asked g.S.Shelf.failed g.S.Shelf.seen c.args.shelf.now c.fetch.new.self)
    c.args.files.now c.loop-path.path-index _ c.fetch.result (g.S.Shelf.asked c.loop-path.shelf)
    c.loop-path-test.true c.loop-path.invariant.1 c.fetch.ensures.asked
