-- For `bad_token`: the bad token stands before any stop, and a bad end where there is none.
use Rattle.std.proofs.Common.{subst, sym}
use Rattle.sil_grammar_shape.specs.Derivation.{IsFirstBad}
use Rattle.sil_grammar_shape.specs.Unsupported.{IsUnsupported}
use Rattle.sil_grammar.proofs.FirstBadLemmas.{unsupported_first, unexpected_first}
use Rattle.sil_grammar.proofs.first_bad.bad_token.Goals as goal

pub returns-then-branch : goal.returns-then-branch
returns-then-branch c =
    let first = subst (λ ks. IsFirstBad ks c.args.i) c.requires.classes c.requires.first in
    let unsupported = subst (λ ks. IsUnsupported ks c.args.i) c.requires.classes (c.in_ok-is_unsupported.ensures.0 c.if-branch.true) in
    rw c.token_place-place.ensures
    (unsupported_first c.args.text.now c.args.tokens.now c.requires.lexed c.args.i first c.requires.reached unsupported)

pub returns : goal.returns
returns c =
    let first = subst (λ ks. IsFirstBad ks c.args.i) c.requires.classes c.requires.first in
    rw c.token_place-place.ensures
    (unexpected_first c.args.text.now c.args.tokens.now c.requires.lexed c.args.i first c.requires.reached (λ u.
    let yes = c.in_ok-is_unsupported.ensures.1 (subst (λ ks. IsUnsupported ks c.args.i) (sym c.requires.classes) u) in
    cc))
