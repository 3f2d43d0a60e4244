-- The options of commands, and why they are valid.
use Rattle.std.proofs.Common.{◌≡◌, Option, Some, None, ap, sym, refl, ◌∙◌, subst, unwrap_or, option_map, arith}
use Rattle.std.proofs.lemmas.Option.{none-some}
use Rattle.std.proofs.lemmas.Grind.{common_steps}
use Rattle.partition_model.specs.declared.options.TheConstants.{MAX_WEAR}
use Rattle.partition_model.specs.declared.options.Options.{Options}
use Rattle.partition_model.specs.declared.options.Mode.{Mode}
use Rattle.partition_model.specs.declared.options.Mode.TheVariants.{Store}
use Rattle.partition_model.specs.Options.{IsValid}
use Rattle.server_words.specs.declared.ask_options.AskOptions.{AskOptions}
use Rattle.server_words.specs.AskOptions.{IsValidAsk}
use Rattle.server_words.specs.declared.ports.PortOptions.{PortOptions}
use Rattle.server_words.specs.PortOptions.{IsValidPorts}
use Rattle.option_words.specs.Words.{Text}
use Rattle.option_words.specs.Settings.{mode, tries, port, value_of}
use Rattle.option_words.proofs.ValueLemmas.{both_told, value_bounds, power_value, one_kilo, required_bounds}
use Rattle.mica_commands.specs.CommandLine.{partitions, buckets, spares, words, readers, wear, fronts, batches, options_with, replay_options, serve_options, without_readers, exclusive_options, image_options, ask_options, per, wait, port_options}

pub same_options : (a b : Options) → Some a ≡ Some b → a ≡ b
same_options a b e = ap (λ o. unwrap_or o a) e

pub with_valid : (mode : Mode) (given : Text → Option Text) (options : Options) → options_with mode given ≡ Some options → IsValid options
with_valid mode given options is =
    let p = both_told (value_of partitions given) _ options is in
    let b = both_told (value_of buckets given) _ options p.2 in
    let s = both_told (value_of spares given) _ options b.2 in
    let w = both_told (value_of words given) _ options s.2 in
    let r = both_told (value_of readers given) _ options w.2 in
    let t = both_told (value_of tries given) _ options r.2 in
    let e = both_told (value_of wear given) _ options t.2 in
    subst IsValid (same_options _ options e.2) (record {
      partitions = value_bounds partitions.name 1 16 4 (given partitions.name) p.0 (omega arith, omega arith) p.1;
      buckets = power_value buckets.name 65536 16 1024 (given buckets.name) b.0 refl (omega arith) one_kilo b.1;
      spares = value_bounds spares.name 0 65536 1024 (given spares.name) s.0 (omega arith, omega arith) s.1;
      words = value_bounds words.name 256 1048576 65536 (given words.name) w.0 (omega arith, omega arith) w.1;
      readers = value_bounds readers.name 1 16 4 (given readers.name) r.0 (omega arith, omega arith) r.1;
      tries = value_bounds tries.name 1 1000 100 (given tries.name) t.0 (omega arith, omega arith) t.1;
      wear = value_bounds wear.name 1 MAX_WEAR MAX_WEAR (given wear.name) e.0 (omega arith, omega arith) e.1;
    })

pub replay_valid : (given : Text → Option Text) (options : Options) → replay_options given ≡ Some options → IsValid options
replay_valid given options is = let m = both_told (value_of mode given) _ options is in with_valid m.0 given options m.2

-- the number of readers may be any in its range
with_one_reader : (read : Option Options) (options : Options) → ((o : Options) → read ≡ Some o → IsValid o) → option_map (λ (o : Options). record o { readers = 1 }) read ≡ Some options → IsValid options
with_one_reader None options valid is = absurd (none-some options is)
with_one_reader (Some o) options valid is = grind (arith, common_steps)

pub serve_valid : (given : Text → Option Text) (options : Options) → serve_options given ≡ Some options → IsValid options
serve_valid given options is = with_one_reader (replay_options given) options (replay_valid given) is

without_readers_valid : (read : Option Options) (options : Options) → ((o : Options) → read ≡ Some o → IsValid o) → option_map without_readers read ≡ Some options → IsValid options
without_readers_valid None options valid is = absurd (none-some options is)
without_readers_valid (Some o) options valid is = grind (arith, common_steps)

pub exclusive_valid : (given : Text → Option Text) (options : Options) → exclusive_options given ≡ Some options → IsValid options
exclusive_valid given options is = without_readers_valid (replay_options given) options (replay_valid given) is

-- the mode of options that were read is the one that was given
mode_kept : (read : Option Options) (options : Options) → ((o : Options) → read ≡ Some o → o.mode ≡ Store) → option_map without_readers read ≡ Some options → options.mode ≡ Store
mode_kept None options same is = absurd (none-some options is)
mode_kept (Some o) options same is = ap (λ (x : Options). x.mode) (sym (same_options (without_readers o) options is)) ∙ same o refl

with_mode : (mode : Mode) (given : Text → Option Text) (options : Options) → options_with mode given ≡ Some options → options.mode ≡ mode
with_mode chosen given options is =
    let p = both_told (value_of partitions given) _ options is in
    let b = both_told (value_of buckets given) _ options p.2 in
    let s = both_told (value_of spares given) _ options b.2 in
    let w = both_told (value_of words given) _ options s.2 in
    let r = both_told (value_of readers given) _ options w.2 in
    let t = both_told (value_of tries given) _ options r.2 in
    let e = both_told (value_of wear given) _ options t.2 in
    ap (λ (x : Options). x.mode) (sym (same_options _ options e.2))

pub image_valid : (given : Text → Option Text) (options : Options) → image_options given ≡ Some options → IsValid options × (options.mode ≡ Store)
image_valid given options is = (without_readers_valid (options_with Store given) options (with_valid Store given) is, mode_kept (options_with Store given) options (with_mode Store given) is)

pub ask_valid : (given : Text → Option Text) (options : AskOptions) → ask_options given ≡ Some options → IsValidAsk options
ask_valid given options is =
    let p = both_told (value_of port given) _ options is in
    let n = both_told (value_of partitions given) _ options p.2 in
    let f = both_told (value_of fronts given) _ options n.2 in
    let e = both_told (value_of per given) _ options f.2 in
    let w = both_told (value_of wait given) _ options e.2 in
    let made : AskOptions = record { port = p.0; partitions = n.0; fronts = f.0; per = e.0; wait = w.0 } in
    subst IsValidAsk (ap (λ o. unwrap_or o made) w.2) (record {
      port = required_bounds port.name 1024 65000 (given port.name) p.0 p.1;
      partitions = value_bounds partitions.name 1 16 4 (given partitions.name) n.0 (omega arith, omega arith) n.1;
      fronts = value_bounds fronts.name 1 16 1 (given fronts.name) f.0 (omega arith, omega arith) f.1;
      per = value_bounds per.name 1 255 32 (given per.name) e.0 (omega arith, omega arith) e.1;
      wait = value_bounds wait.name 1 3600 5 (given wait.name) w.0 (omega arith, omega arith) w.1;
    })

pub ports_valid : (given : Text → Option Text) (ports : PortOptions) → port_options given ≡ Some ports → IsValidPorts ports
ports_valid given ports is =
    let p = both_told (value_of port given) _ ports is in
    let f = both_told (value_of fronts given) _ ports p.2 in
    let b = both_told (value_of batches given) _ ports f.2 in
    let made : PortOptions = record { port = p.0; fronts = f.0; batches = b.0 } in
    let count = required_bounds batches.name 1 1000000 (given batches.name) b.0 b.1 in
    subst IsValidPorts (ap (λ o. unwrap_or o made) b.2) (record {
      port = required_bounds port.name 1024 65000 (given port.name) p.0 p.1;
      fronts = value_bounds fronts.name 1 16 1 (given fronts.name) f.0 (omega arith, omega arith) f.1;
      batches = (count.0, omega (arith, count.1));
    })
