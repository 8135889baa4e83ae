-- A text says one answer: that of its document.
use Rattle.std.proofs.Common.{◌≡◌, ◌≢◌, List, ℕ, Option, Some, None, Ok, Err, IfOk, IfErr, refl, ap, sym, ◌∙◌}
use Rattle.toml.specs.Data.{Members}
use Rattle.net_data.specs.Network.{Network}
use Rattle.net_text.specs.Faults.{Answer}
use Rattle.net_text.specs.Reading.{IsDocument, answer_of, network_of, Says}
use Rattle.net_text.specs.declared.faults.LoadFault.TheVariants.{OutOfMemory, Read}
use Rattle.net_text.proofs.FaultLemmas.{never_read}

same_document : (text : List ℕ) (a b : Option Members) → IsDocument text a → IsDocument text b → a ≡ b
same_document text None None p q = refl
same_document text (Some a) (Some b) p q = sym p.1 ∙ q.1
same_document text (Some a) None p q = sym p.1 ∙ q p.0
same_document text None (Some b) p q = sym (p q.0) ∙ q.1

pub one_answer : (text : List ℕ) (a b : Answer Network) → Says text a → Says text b → a ≡ b
one_answer text a b p q = sym p.2 ∙ ap answer_of (same_document text p.0 q.0 p.1 q.1) ∙ q.2

-- what a document says, its text says
pub says_net : (text : List ℕ) (doc : Members) (r : Answer Network) → IsDocument text (Some doc) → IfOk r (λ net. network_of doc ≡ Ok net) → IfOk r (λ net. Says text (Ok net))
says_net text doc (Ok net) is says = (Some doc, is, says)
says_net text doc (Err e) is says = tt

pub says_fault : (text : List ℕ) (doc : Members) (r : Answer Network) → IsDocument text (Some doc)
    → IfErr r (λ e. e ≢ OutOfMemory → network_of doc ≡ Err e) → IfErr r (λ e. e ≢ OutOfMemory → Says text (Err e))
says_fault text doc (Ok net) is says = tt
says_fault text doc (Err e) is says = λ other. (Some doc, is, says other)

-- no document says that it can't be read
pub says_no_read : (doc : Members) (r : Answer Network) → IfErr r (λ e. e ≢ OutOfMemory → network_of doc ≡ Err e) → r ≢ Err Read
says_no_read doc (Ok net) says = λ q. cc
says_no_read doc (Err e) says = λ q. let same : e ≡ Read = cc in never_read doc e says same
