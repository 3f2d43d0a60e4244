-- What is said of a client's fault.
use Rattle.std.specs.Prelude.{ℕ, List, ◌++◌, codes}
use Rattle.std.specs.Fmt.{decimal}
use Rattle.mica_client.specs.declared.fault.AskFault.{AskFault}
use Rattle.mica_client.specs.declared.fault.AskFault.TheVariants.{Unread, Stranger, Double, Wrong, Lost, Link, NoMemory}

-- the text of each fault that ends `ask`
abbrev pub ask_fault_text : AskFault → List ℕ
ask_fault_text Unread = codes "unread"
ask_fault_text (Stranger ticket) = codes "stranger " ++ decimal ticket
ask_fault_text (Double ticket) = codes "double " ++ decimal ticket
ask_fault_text (Wrong ticket) = codes "wrong " ++ decimal ticket
ask_fault_text Lost = codes "lost"
ask_fault_text Link = codes "link fault"
ask_fault_text NoMemory = codes "out of memory"
