use Rattle.std.proofs.Common.{ap, refl}
use Rattle.tallies.specs.Totals.{all_replies}
use Rattle.omaha_commands.specs.Forms.{is_read}
use Rattle.omaha_commands.proofs.FormLemmas.{is_declining-fault, is_declining-lack, is_expected-edition, is_expected-followed, is_expected-none, is_expected-raised, is_status-string}
use Rattle.omaha_commands.proofs.laws.replies.Goals as goal

pub returns : goal.returns
returns c = record {
  editions = is_expected-edition;
  raises = is_expected-raised;
  dumps = λ mirrors history reply dump. ap is_read dump.reads_back.read;
  statuses = λ shown edition started read. is_status-string shown.edition shown.counts.started shown.address.now _ (all_replies shown.totals.now.replies) edition started read;
  stops = refl;
  looks = record { adopted = is_expected-followed; none = is_expected-none };
  declines = record {
    stale = λ number. refl;
    refused = λ edit. refl;
    full = refl;
    unreachable = refl;
    doubt = refl;
    script = is_declining-fault;
    unraised = λ fault. refl;
    invalid_raise = refl;
    lacking = is_declining-lack;
  };
}
