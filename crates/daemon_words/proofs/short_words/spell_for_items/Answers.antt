use Rattle.daemon_words.proofs.short_words.spell_for_items.Goals as goal

pub returns-in-text : goal.returns-in-text
returns-in-text c = rw c.in-text.is c.add_before.ensures

pub returns-in-text-2 : goal.returns-in-text-2
returns-in-text-2 c = rw c.in-text-2.is c.add_before-in-text-2.ensures

pub returns-in-text-3 : goal.returns-in-text-3
returns-in-text-3 c = rw c.in-text-3.is c.add_before-in-text-3.ensures
