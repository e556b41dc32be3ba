mod ArgsOpen
