use Rattle.sherlog.proofs.source.listed.Goals as goal

pub returns : goal.returns
returns c = record {
  found = record {
    program = c.in_ok-program.program;
    of_source = c.in_ok-program.ensures.externals;
    of_profile = c.in_ok-program.ensures.profile;
    are = c.in_ok-sites.ensures;
  };
  refused = tt;
}
