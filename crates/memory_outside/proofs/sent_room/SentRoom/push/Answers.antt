use Rattle.std.proofs.Common.{rules, ◌≡◌, ◌++◌, ◌∷◌, [], List, ℕ, length, ap, ◌∙◌}
use Rattle.memory_outside.specs.declared.sent_room.Mark.{Mark}
use Rattle.memory_outside.specs.SentRoom.{sent_in}
use Rattle.memory_outside.proofs.SentRooms.{sent_more}
use Rattle.memory_outside.proofs.sent_room.SentRoom.push.Goals as goal

pub returns-clause-sent : goal.returns-clause-sent
returns-clause-sent c =
    let bytes = c.self.inside.bytes.items in
    let marks = c.self.inside.marks.items in
    let all : c.extend_from_slice.new.self.items ≡ bytes ++ c.args.reply.now = search rules in
    let from : c.len-from.result ≡ length bytes = search rules in
    let to : c.len-to.result ≡ length (bytes ++ c.args.reply.now) = search rules in
    ap (λ (b : List ℕ). sent_in b c.push_reserved.new.self.items) all
    ∙ ap (λ (m : List Mark). sent_in (bytes ++ c.args.reply.now) m) c.push_reserved.ensures.items
    ∙ sent_more bytes c.args.reply.now marks c.len-from.result c.len-to.result c.args.after c.self.invariant.2 from to
    ∙ ap (λ s. s.sent ++ record { bytes = c.args.reply.now; after = c.args.after } ∷ []) c.self.view_is
