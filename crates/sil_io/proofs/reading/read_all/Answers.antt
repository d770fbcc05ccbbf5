-- A piece that was taken counts as taken also where the answer is a refusal.
use Rattle.std.proofs.Common.{◌≡◌, ◌<◌, ◌≤◌, length, take, [], ◌+◌, refl, rules, arith, length-take}
use Rattle.std.proofs.lemmas.List.{length-take-le}
use Rattle.std.proofs.lemmas.Result.{err_from_is_err_and}
use Rattle.std.proofs.KnownBytes.{Consumes-nil}
use Rattle.sil_io.specs.Reading.{nothing, piece}
use Rattle.sil_io.proofs.Steps.{gives_more, no_memory}
use Rattle.sil_io.proofs.reading.read_all.Goals as goal

pub returns-in_err-chunk-clause-cut_off : goal.returns-in_err-chunk-clause-cut_off
returns-in_err-chunk-clause-cut_off g c =
    let memory = err_from_is_err_and c.from_residual.result c.from_residual.ensures.1 in
    no_memory _ g.S.Source.missed _ _ _ _ memory.1 memory.2 ([], omega arith, nothing)

pub pieces-init : goal.pieces-init
pieces-init g c = record {
  within = search rules;
  taken = rw c.new-bytes.ensures.items (Consumes-nil _);
  takes = rw c.new-bytes.ensures.items nothing;
  same_count = refl;
  some_room = search rules;
}

pub returns-then-count-limit-clause-gives_up : goal.returns-then-count-limit-clause-gives_up
returns-then-count-limit-clause-gives_up g c =
    let now = c.in_ok-count.ensures in
    let more = gives_more _ _ _ c.pieces.bytes.items c.take.new.buf c.in_ok-count.count now.within c.pieces.invariant.taken now.taken in
    let asked = length-take c.min-wanted.result c.deref_mut.result.now in
    let too_many : length c.pieces.bytes.items + c.in_ok-count.count ≡ c.args.limit + 1 = omega (arith, asked, c.take.auto.buf, now.within, c.pieces.bytes.ok.0) in
    (_, more.taken, (λ _. omega (arith, more.count), λ _. refl))

pub returns-then-count-limit-clause-cut_off : goal.returns-then-count-limit-clause-cut_off
returns-then-count-limit-clause-cut_off g c =
    let now = c.in_ok-count.ensures in
    let more = gives_more _ _ _ c.pieces.bytes.items c.take.new.buf c.in_ok-count.count now.within c.pieces.invariant.taken now.taken in
    let asked = length-take c.min-wanted.result c.deref_mut.result.now in
    let long = length-take-le c.in_ok-count.count c.take.new.buf now.within in
    let some : 0 < length (take c.in_ok-count.count c.take.new.buf) = omega arith in
    (_, omega (arith, more.count, asked, c.take.auto.buf, now.within, c.pieces.bytes.ok.0), piece c.pieces.invariant.takes some now.one_call)

pub pieces-preserved : goal.pieces-preserved
pieces-preserved g c =
    let now = c.in_ok-count.ensures in
    let more = gives_more _ _ _ c.pieces.bytes.items c.take.new.buf c.in_ok-count.count now.within c.pieces.invariant.taken now.taken in
    let items = c.in_ok-extend_from_slice.ensures.items in
    let known = rw items at c.extend_from_slice.new.self.ok.0 in
    let long = length-take-le c.in_ok-count.count c.take.new.buf now.within in
    let some : 0 < length (take c.in_ok-count.count c.take.new.buf) = omega arith in
    record {
      within = omega (arith, more.count, known, c.pieces.bytes.ok.0);
      taken = rw items more.taken;
      takes = rw items (piece c.pieces.invariant.takes some now.one_call);
      same_count = cc (now.no_fault, c.pieces.invariant.same_count);
      some_room = c.pieces.invariant.some_room;
    }

pub returns-in_err-extend_from_slice-clause-gives_up : goal.returns-in_err-extend_from_slice-clause-gives_up
returns-in_err-extend_from_slice-clause-gives_up g c =
    let now = c.in_ok-count.ensures in
    let more = gives_more _ _ _ c.pieces.bytes.items c.take.new.buf c.in_ok-count.count now.within c.pieces.invariant.taken now.taken in
    let few : length c.pieces.bytes.items + c.in_ok-count.count ≤ c.args.limit = omega (arith, c.pieces.bytes.ok.0) in
    let memory = err_from_is_err_and c.from_residual-in_err-extend_from_slice.result c.from_residual-in_err-extend_from_slice.ensures.1 in
    (_, more.taken, (λ e. cc (e, memory.1, memory.2), λ e. absurd (omega (arith, more.count))))

pub returns-in_err-extend_from_slice-clause-cut_off : goal.returns-in_err-extend_from_slice-clause-cut_off
returns-in_err-extend_from_slice-clause-cut_off g c =
    let now = c.in_ok-count.ensures in
    let more = gives_more _ _ _ c.pieces.bytes.items c.take.new.buf c.in_ok-count.count now.within c.pieces.invariant.taken now.taken in
    let few : length c.pieces.bytes.items + c.in_ok-count.count ≤ c.args.limit = omega (arith, c.pieces.bytes.ok.0) in
    let long = length-take-le c.in_ok-count.count c.take.new.buf now.within in
    let some : 0 < length (take c.in_ok-count.count c.take.new.buf) = omega arith in
    let memory = err_from_is_err_and c.from_residual-in_err-extend_from_slice.result c.from_residual-in_err-extend_from_slice.ensures.1 in
    no_memory _ g.S.Source.missed _ _ _ _ memory.1 memory.2 (_, omega (arith, more.count), piece c.pieces.invariant.takes some now.one_call)
