use Rattle.std.proofs.Common.{◌≡◌, ◌≤◌, ◌++◌, Bool, true, false, min, ap, ◌∙◌, arith}
use Rattle.std.specs.Prelude.{sum_by}
use Rattle.partition_model.specs.declared.options.TheConstants.{MOST_PARTITIONS}
use Rattle.memcached_stats.specs.Figures.{since_in, told_of, wear_in}
use Rattle.memcached_stats.specs.Lines.{most_len}
use Rattle.memcached_stats.specs.Stats.{command_stats, connection_stats, eviction_stats, lines_of, process_stats, server_text, wear_text}
use Rattle.memcached_stats.proofs.WearLaws.{in_turn}
use Rattle.memcached_stats.proofs.put.put_server.Goals as goal

pub returns-clause-ok : goal.returns-clause-ok
unfolding server_text
returns-clause-ok c =
    let style = c.args.style.now in
    let figures = c.args.figures.now in
    let before = c.args.out.now.items in
    let process = lines_of style (process_stats figures.about) in
    let connections = lines_of style (connection_stats (told_of figures)) in
    let commands = lines_of style (command_stats (since_in figures.counts)) in
    let evictions = lines_of style (eviction_stats figures.about.evicts) in
    let worn = wear_text style 0 (min c.args.partitions MOST_PARTITIONS) (wear_in figures.wears) in
    let one : c.put_lines.new.out.items ≡ before ++ process = c.in_ok-put_lines.ensures.ok ∙ (λ i. before ++ lines_of style (c.process_lines.ensures.are i)) in
    let two : c.put_lines-2.new.out.items ≡ before ++ process ++ connections =
    c.in_ok-put_lines-2.ensures.ok ∙ (λ i. one i ++ lines_of style (c.connection_lines.ensures.are i)) in
    let three : c.put_lines-3.new.out.items ≡ before ++ process ++ connections ++ commands =
    c.in_ok-put_lines-3.ensures.ok ∙ (λ i. two i ++ lines_of style (c.command_lines.ensures.are i)) in
    let four : c.put_lines-4.new.out.items ≡ before ++ process ++ connections ++ commands ++ evictions =
    c.in_ok-put_lines-4.ensures.ok ∙ (λ i. three i ++ lines_of style (c.eviction_lines.ensures.are i)) in
    c.in_ok-put_wears.ensures.ok ∙ (λ i. four i ++ wear_text style 0 (c.min.ensures i) (wear_in (c.as_slice.ensures i))) ∙ in_turn before process connections commands evictions worn

few_evictions : (evicts : Bool) → sum_by most_len (eviction_stats evicts) ≤ 65
few_evictions true = omega arith
few_evictions false = omega arith

pub returns-clause-short : goal.returns-clause-short
returns-clause-short c =
    let process = ap (sum_by most_len) c.process_lines.ensures.are in
    let connections = ap (sum_by most_len) c.connection_lines.ensures.are in
    let commands = ap (sum_by most_len) c.command_lines.ensures.are in
    let evictions = ap (sum_by most_len) c.eviction_lines.ensures.are in
    omega (
      arith,
      c.in_ok-put_lines.ensures.short,
      process,
      c.in_ok-put_lines-2.ensures.short,
      connections,
      c.in_ok-put_lines-3.ensures.short,
      commands,
      c.in_ok-put_lines-4.ensures.short,
      evictions,
      few_evictions c.args.figures.now.about.evicts,
      c.in_ok-put_wears.ensures.short,
      c.min.ensures,
    )

pub returns-clause-more : goal.returns-clause-more
returns-clause-more c = (_, returns-clause-ok c)
