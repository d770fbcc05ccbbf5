use Rattle.std.proofs.Common.{◌≡◌, ◌+◌, ◌++◌, ◌∷◌, [], List, get_or, All, take, sym, ap, ◌∙◌, subst, arith}
use Rattle.std.proofs.lemmas.Grind.{flat_map-append, take_at_read}
use Rattle.std.proofs.lemmas.List.{take_all, append-nil}
use Rattle.std.proofs.lemmas.List.Elements.{All-append}
use Rattle.sil_ast.specs.declared.place.ValueId.{ValueId}
use Rattle.memory_rules_accesses.specs.reach_engine_marks.PathPatterns.inner.Reads.{accesses_at}
use Rattle.memory_rules_slots.specs.inner.Chunks.{slots_in}
use Rattle.memory_rules_slots.specs.inner.Searches.{IsUncrossed}
use Rattle.memory_rules_slots.specs.declared.chunk.Chunk.{Chunk}
use Rattle.memory_rules_slots.proofs.search.are_uncrossed.Goals as goal

one_more : (P : ValueId → Type 0) (chunks : List Chunk) (more : List Chunk) (c : Chunk) → more ≡ chunks ++ c ∷ [] → All P (slots_in chunks) → All P c.slots.items → All P (slots_in more)
one_more P chunks more c e h k =
    subst (All P) (sym (ap slots_in e ∙ flat_map-append (λ (c : Chunk). c.slots.items) chunks (c ∷ []) ∙ ap (λ l. slots_in chunks ++ l) (append-nil c.slots.items)))
    (All-append P (slots_in chunks) c.slots.items h k)

pub loop-chunk-preserved : goal.loop-chunk-preserved
loop-chunk-preserved c =
    let P : ValueId → Type 0 = IsUncrossed c.args.g.now (accesses_at c.args.accesses.now) c.args.first in
    let here : get_or c.args.chunks.now c.loop-chunk.chunk-index c.chunk-item.result ≡ c.chunk-item.result = sym c.chunk-item.is in
    one_more P (take c.loop-chunk.chunk-index c.args.chunks.now) (take (c.loop-chunk.chunk-index + 1) c.args.chunks.now) c.chunk-item.result
    ((take_at_read c.args.chunks.now c.loop-chunk.chunk-index c.chunk-item.result c.loop-chunk-test.true).1 ∙ ap (λ v. take c.loop-chunk.chunk-index c.args.chunks.now ++ v ∷ []) here)
    c.loop-chunk.invariant (c.in_ok-is_uncrossed.ensures c.if-not-branch.false)

pub returns : goal.returns
returns c = λ told.
    let P : List Chunk → Type 0 = λ l. All (IsUncrossed c.args.g.now (accesses_at c.args.accesses.now) c.args.first) (slots_in l) in
    subst P (take_all c.loop-chunk.chunk-index c.args.chunks.now (omega arith)) c.loop-chunk.invariant
