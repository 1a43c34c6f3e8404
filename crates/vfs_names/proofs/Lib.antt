mod Slashes
