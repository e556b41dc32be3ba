use Rattle.std.proofs.Common.{length, Err, refl, ap, arith}
use Rattle.std.proofs.lemmas.List.{length-map}
use Rattle.pp_front.specs.Programs.{bytes_of}
use Rattle.pp_modes.proofs.Asked.{if_ok}
use Rattle.pp_modes.specs.Responses.{response_of}
use Rattle.pp_words.specs.Told.{task_told, texts}
use Rattle.pureproof.proofs.Held.{as_many, due_answered, due_too_long, due_unread, fails_file, fewer, ok_err}
use Rattle.pureproof.specs.Fetched.{told}
use Rattle.pureproof.proofs.responding.due_of_files.Goals as goal

pub respond-requires-clause-few : goal.respond-requires-clause-few
respond-requires-clause-few g c =
    let same = ap length c.deref.ensures.value in
    let many = as_many c.in-Ok.ensures.held in
    let shown = length-map c.fetch_all.new.sources.items bytes_of in
    let files = length-map c.args.files.now (λ word. word.now) in
    let few = c.requires.few in omega arith

pub returns-in-Ok-clause-due : goal.returns-in-Ok-clause-due
returns-in-Ok-clause-due g c =
    if_ok c.respond.result c.respond.ensures
    (λ r answers words is. due_answered words (told g.S.Shelf.held g.S.Shelf.asked g.S.Shelf.failed g.S.Shelf.seen
    c.args.shelf.now
    c.fetch_all.new.shelf) _ is
    c.fetch_all.new.sources.items c.deref.result.now (response_of r) c.deref.ensures.value c.in-Ok.ensures.held
    c.in-Ok.ensures.short c.in-Ok.ensures.asked
    (c.in-Ok.ensures.calm ok_err) answers)

pub bounds-files-len : goal.bounds-files-len
bounds-files-len g c =
    let fails = c.in-Err-Failed.ensures.failed (ap Err c.in-Err-Failed.field-0-is) in
    let less = fewer (texts c.args.files.now) c.fetch_all.new.sources.items fails.path fails.here in
    let files = length-map c.args.files.now (λ word. word.now) in
    let len = c.len.ensures in omega arith

pub returns-in-Err-Failed-clause-due : goal.returns-in-Err-Failed-clause-due
returns-in-Err-Failed-clause-due g c =
    let fails = c.in-Err-Failed.ensures.failed (ap Err c.in-Err-Failed.field-0-is) in
    let less = fewer (texts c.args.files.now) c.fetch_all.new.sources.items fails.path fails.here in
    let files = length-map c.args.files.now (λ word. word.now) in
    let len = c.len.ensures in
    if_ok c.unread.result c.unread.ensures
    (λ r says words is. due_unread words (told g.S.Shelf.held g.S.Shelf.asked g.S.Shelf.failed g.S.Shelf.seen
    c.args.shelf.now
    c.fetch_all.new.shelf) _ is
    c.fetch_all.new.sources.items c.args.files.now c.len.result _ (response_of r) fails refl (omega (arith, len))
    (omega (arith, less, files, len)) says)

pub returns-in-Err-Failed-clause-fetched : goal.returns-in-Err-Failed-clause-fetched
returns-in-Err-Failed-clause-fetched g c =
    fails_file (told g.S.Shelf.held g.S.Shelf.asked g.S.Shelf.failed g.S.Shelf.seen c.args.shelf.now
    c.fetch_all.new.shelf)
    (record { task = task_told c.args.task; files = texts c.args.files.now }) c.fetch_all.new.sources.items
    (c.in-Err-Failed.ensures.failed (ap Err c.in-Err-Failed.field-0-is))

pub overflow_cast-len : goal.overflow_cast-len
overflow_cast-len g c =
    let long = c.in-Err-TooLong.ensures.long (ap Err c.in-Err-TooLong.field-0-is) in
    let less = fewer (texts c.args.files.now) c.fetch_all.new.sources.items long.path long.here in
    let files = length-map c.args.files.now (λ word. word.now) in
    let len = c.len-in-Err-TooLong.ensures in
    let few = c.requires.few in omega (arith, less, files, len, few)

pub overflow_add-len : goal.overflow_add-len
overflow_add-len g c =
    let long = c.in-Err-TooLong.ensures.long (ap Err c.in-Err-TooLong.field-0-is) in
    let less = fewer (texts c.args.files.now) c.fetch_all.new.sources.items long.path long.here in
    let files = length-map c.args.files.now (λ word. word.now) in
    let len = c.len-in-Err-TooLong.ensures in
    let few = c.requires.few in omega (arith, less, files, len, few)

pub returns-in-Err-TooLong-clause-due : goal.returns-in-Err-TooLong-clause-due
returns-in-Err-TooLong-clause-due g c =
    let long = c.in-Err-TooLong.ensures.long (ap Err c.in-Err-TooLong.field-0-is) in
    let len = c.len-in-Err-TooLong.ensures in
    if_ok c.too_long.result c.too_long.ensures
    (λ r says words is. due_too_long words (told g.S.Shelf.held g.S.Shelf.asked g.S.Shelf.failed g.S.Shelf.seen
    c.args.shelf.now
    c.fetch_all.new.shelf) _ is
    c.fetch_all.new.sources.items _ (response_of r) long (omega (arith, len)) says)
