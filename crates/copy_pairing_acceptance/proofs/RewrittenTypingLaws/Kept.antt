-- The promise of `laws`: where a copy is rewritten, a typed module in numbered form stays both.
use Rattle.std.proofs.Common.{refl, sym, subst}
use Rattle.sil_types_declarations.specs.TypeDefinitions.Declarations.{declarations_of}
use Rattle.copy_pairing_acceptance.specs.RewrittenTypingLaws.inner.KeptTypes.{IsTypedAs, RewritingKeepsTypes}
use Rattle.copy_pairing_acceptance.proofs.RewrittenTypingLaws.Made.{is_made}
use Rattle.copy_pairing_acceptance.proofs.RewrittenTypingLaws.Mentioned.{stays_declared, stays_in_limits}
use Rattle.copy_pairing_acceptance.proofs.RewrittenTypingLaws.Numbered.{stays_numbered}
use Rattle.copy_pairing_acceptance.proofs.RewrittenTypingLaws.Rules.{stays_owned, stays_typed}

pub rewriting_keeps_types : RewritingKeepsTypes
rewriting_keeps_types m n p next numbered types rewrites =
    let h = is_made m n p next types.typed rewrites in
    subst (IsTypedAs m) (sym h.is)
    (record {
      numbered = stays_numbered (declarations_of m) m h.functions h.alike numbered;
      types = record {
        declared = (stays_declared m h.functions h.alike types.declared.0, stays_in_limits m h.functions h.alike types.declared.1);
        typed = stays_typed m h.functions h.alike types.typed types.owned;
        owned = stays_owned m h.functions h.alike types.typed types.owned;
      };
      declarations = refl;
    })
