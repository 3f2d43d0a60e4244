-- Of the messages of a queue with one sender, all are its own.
use Rattle.std.proofs.Common.{◌≡◌, ◌<◌, ◌==◌, List, [], ◌∷◌, refl, ap, ◌∙◌, arith, cond, true, eq-eqb}
use Rattle.std.specs.List.{AllByRecursion}
use Rattle.owner_queue.specs.declared.message.Message.{Message}
use Rattle.owner_queue.specs.Messages.{sender_of, sent_by}

pub all_sent_by : (messages : List Message) → AllByRecursion (λ m. sender_of m < 1) messages → sent_by 0 messages ≡ messages
all_sent_by [] all = refl
all_sent_by (m ∷ messages) all =
    let own : (sender_of m == 0) ≡ true = eq-eqb (sender_of m) 0 (omega (arith, all.0)) in
    ap (λ b. cond b (m ∷ sent_by 0 messages) (sent_by 0 messages)) own ∙ ap (λ l. m ∷ l) (all_sent_by messages all.1)
