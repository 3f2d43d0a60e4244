use Rattle.std.proofs.Common.{◌≡◌, ℕ, ◌+◌, length, ap, ◌∙◌, arith}
use Rattle.partition_walk.proofs.Bytes.{length-bytes_in, item_lengths}
use Rattle.partition_walk.proofs.pairs.read_pair.Goals as goal

pub returns-clause-fits : goal.returns-clause-fits
returns-clause-fits g c =
    let lengths = item_lengths (g.W.OwnerWords.owner c.args.words.now) c.args.offset c.read-header.result c.requires c.read-header.ensures.value in
    let key : length c.read_bytes.new.out.items ≡ c.header_key_len-key_len.result = ap (length {A = ℕ}) c.in_ok-read_bytes.ensures.bytes
    ∙ length-bytes_in (g.W.OwnerWords.owner c.read-header.new.self) (c.args.offset + 2) c.header_key_len-key_len.result in
    let value : length c.read_bytes-2.new.out.items ≡ c.header_value_len-value_len.result = ap (length {A = ℕ}) c.in_ok-read_bytes-2.ensures.bytes
    ∙ length-bytes_in (g.W.OwnerWords.owner c.read_bytes.new.words) (c.args.offset + 2 + c.div_ceil.result) c.header_value_len-value_len.result in
    record {
      key = (omega (arith, key, lengths.0, c.header_key_len-key_len.ensures), omega (arith, key, c.header_key_len-key_len.ensures));
      value = omega (arith, value, lengths.1, c.header_value_len-value_len.ensures);
      reads = omega arith;
    }
